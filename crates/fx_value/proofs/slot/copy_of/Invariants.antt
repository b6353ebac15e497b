use Rattle.std.proofs.Common.{◌≡◌, take}
use Rattle.fx_value.proofs.slot.copy_of.Given as goal

abbrev pub invariant-loop-slot : goal.invariant-loop-slot
invariant-loop-slot l = l.copies.items ≡ take l.slot-index l.slots.items
