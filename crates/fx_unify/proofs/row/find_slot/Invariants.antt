use Rattle.std.proofs.Common.{◌≡◌, Option, drop}
use Rattle.fx_types.specs.Ground.{listed}
use Rattle.fx_unify.specs.Part.{Part}
use Rattle.fx_unify.specs.Store.{slot_in, slot_names}
use Rattle.fx_unify.proofs.row.find_slot.Given as goal

abbrev pub invariant-loop-slot : goal.invariant-loop-slot
invariant-loop-slot l =
    (listed l.label (slot_names l.slots) ≡ listed l.label (slot_names (drop l.slot-index l.slots)))
    × ((other : Option Part) → slot_in l.slots l.label other ≡ slot_in (drop l.slot-index l.slots) l.label other)
