use Rattle.std.proofs.Common.{◌≡◌, take}
use Rattle.std.specs.List.{filter_map}
use Rattle.fx_value.specs.Row.{shared_cell}
use Rattle.fx_value.specs.Slots.{entries_of}
use Rattle.fx_value.proofs.slot.shared_in.Given as goal

abbrev pub invariant-loop-slot : goal.invariant-loop-slot
invariant-loop-slot l = l.cells.items ≡ filter_map shared_cell (entries_of (take l.slot-index l.slots.items))
