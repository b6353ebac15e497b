use Rattle.std.proofs.Common.{◌≡◌, true, take}
use Rattle.fx_types.specs.Ground.{listed}
use Rattle.fx_types.specs.Term.{Label}
use Rattle.fx_unify.specs.Known.{Knows}
use Rattle.fx_unify.specs.Rows.{Grows}
use Rattle.fx_unify.specs.Store.{slot_names}
use Rattle.fx_unify.proofs.labels.add_slots.Given as goal

abbrev pub invariant-loop-slot : goal.invariant-loop-slot
invariant-loop-slot l =
    ((x : Label) → listed x (slot_names (take l.slot-index l.slots)) ≡ true → listed x l.labels.items ≡ true) × Grows l.initial.labels.items l.labels.items

abbrev pub invariant-loop-slot-2 : goal.invariant-loop-slot-2
invariant-loop-slot-2 l =
    ((x : Label) → listed x (slot_names (take l.slot-index l.slots)) ≡ true → listed x l.labels.items ≡ true) × Grows l.initial.labels.items l.labels.items × Knows l.known l.labels.items
