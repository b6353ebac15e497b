use Rattle.std.proofs.Common.{◌≡◌, ◌++◌, map, take, drop, IfSome}
use Rattle.fx_value.specs.Change.{all_changed, IsReshape}
use Rattle.fx_value.proofs.change.change_rows.Given as goal

abbrev pub invariant-loop-row : goal.invariant-loop-row
invariant-loop-row l =
    (l.row-items ≡ map (all_changed l.changes) (take l.row-index l.initial.row-items) ++ drop l.row-index l.initial.row-items)
    × IfSome l.last (IsReshape l.changes)
