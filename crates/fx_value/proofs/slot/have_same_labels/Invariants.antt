use Rattle.std.proofs.Common.{◌≡◌, drop}
use Rattle.std.specs.Cmp.Lexicographic.{pointwise}
use Rattle.fx_base.specs.Text.{same_text}
use Rattle.fx_value.specs.Slots.{labels_of}
use Rattle.fx_value.proofs.slot.have_same_labels.Given as goal

abbrev pub invariant-loop-i : goal.invariant-loop-i
invariant-loop-i l =
    pointwise same_text (labels_of l.slots.items) (labels_of l.others.items)
    ≡ pointwise same_text (labels_of (drop l.i l.slots.items)) (labels_of (drop l.i l.others.items))
