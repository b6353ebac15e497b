use Rattle.std.proofs.Common.{◌≡◌, take}
use Rattle.fx_join.specs.Join.{marked}
use Rattle.fx_join.proofs.joining.with_hits.Given as goal

abbrev pub invariant-loop-i : goal.invariant-loop-i
invariant-loop-i l = l.made.items ≡ marked (take l.i l.marks) l.hits
