use Rattle.std.proofs.Common.{◌≡◌, take}
use Rattle.fx_value.specs.Slots.{labels_of}
use Rattle.fx_value.proofs.slot.labels_in.Given as goal

abbrev pub invariant-loop-slot : goal.invariant-loop-slot
invariant-loop-slot l = l.labels.items ≡ labels_of (take l.slot-index l.slots.items)
