use Rattle.std.proofs.Common.{◌≡◌, take}
use Rattle.fx_join.specs.Join.{no_marks}
use Rattle.fx_join.proofs.joining.no_marks.Given as goal

abbrev pub invariant-loop-right : goal.invariant-loop-right
invariant-loop-right l = l.marks.items ≡ no_marks (take l._right-index l.rights)
