use Rattle.std.proofs.Common.{◌≡◌, ◌++◌, take, drop}
use Rattle.fx_csv.specs.Shapes.{all_widened}
use Rattle.fx_csv.proofs.block.widen_all.Given as goal

abbrev pub invariant-loop-i : goal.invariant-loop-i
invariant-loop-i l =
    l.columns.items
    ≡ all_widened (take l.i l.initial.columns.items) (take l.i l.others) ++ drop l.i l.initial.columns.items
