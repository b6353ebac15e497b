use Rattle.std.proofs.Common.{◌≡◌, take}
use Rattle.fx_join.specs.Join.{unmarked}
use Rattle.fx_join.proofs.joining.unmarked.Given as goal

abbrev pub invariant-loop-i : goal.invariant-loop-i
invariant-loop-i l = l.left.items ≡ unmarked l.marks (take l.i l.rights)
