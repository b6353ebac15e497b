use Rattle.std.proofs.Common.{◌≡◌, take}
use Rattle.fx_value.proofs.slot.are_same.Given as goal

abbrev pub invariant-loop-i : goal.invariant-loop-i
invariant-loop-i l = take l.i l.slots.items ≡ take l.i l.others.items
