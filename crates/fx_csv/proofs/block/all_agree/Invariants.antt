use Rattle.std.proofs.Common.{◌≡◌, drop}
use Rattle.std.specs.Cmp.Lexicographic.{pointwise}
use Rattle.fx_csv.specs.Shapes.{agrees}
use Rattle.fx_csv.proofs.block.all_agree.Given as goal

abbrev pub invariant-loop-i : goal.invariant-loop-i
invariant-loop-i l = pointwise agrees (drop l.i l.a) (drop l.i l.b) ≡ pointwise agrees l.a l.b
