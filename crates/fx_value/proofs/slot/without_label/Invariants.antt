use Rattle.std.proofs.Common.{◌≡◌, take}
use Rattle.fx_value.specs.Slots.{others}
use Rattle.fx_value.proofs.slot.without_label.Given as goal

abbrev pub invariant-loop-slot : goal.invariant-loop-slot
invariant-loop-slot l = l.kept.items ≡ others l.label (take l.slot-index l.slots.items)
