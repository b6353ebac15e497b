use Rattle.std.proofs.Common.{◌≡◌, map, take}
use Rattle.fx_types.specs.Shape.{entry_term, label_term}
use Rattle.fx_generalize.proofs.same.+same.Given as goal

abbrev pub invariant-same_labels-loop-i : goal.invariant-same_labels-loop-i
invariant-same_labels-loop-i l = map label_term (take l.i l.left) ≡ map label_term (take l.i l.right)

abbrev pub invariant-same_fields-loop-i : goal.invariant-same_fields-loop-i
invariant-same_fields-loop-i l = map entry_term (take l.i l.left) ≡ map entry_term (take l.i l.right)
