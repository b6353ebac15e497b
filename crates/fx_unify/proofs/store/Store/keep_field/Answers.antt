use Rattle.std.proofs.Common.{ap, sym, ◌∙◌}
use Rattle.fx_unify.specs.Part.{part}
use Rattle.fx_unify.specs.Store.{entry, bound_to, slots_of, rest_in, apart_of, rest_of}
use Rattle.fx_unify.proofs.StoreLaws.{free_slot_in}
use Rattle.fx_unify.proofs.store.Store.keep_field.Goals as goal

pub keep-requires : goal.keep-requires
keep-requires c =
    (free_slot_in (slots_of c.args.self.now c.in-Slot.row) c.in-Slot.label (rest_in (apart_of c.args.self.now c.in-Slot.row) (rest_of c.args.self.now c.in-Slot.row) c.in-Slot.label)
    (ap (λ f. bound_to (entry c.args.self.now) (part f)) (sym c.in-Slot.is) ∙ c.requires)).1
