use Rattle.std.proofs.Common.{refl}
use Rattle.fx_unify.proofs.StoreLaws.{on_ok, slot_bound}
use Rattle.fx_unify.proofs.store.Store.bind_slot.Goals as goal

pub returns : goal.returns
returns c =
    on_ok c.add.result
    (λ put. slot_bound c.args.self.now c.keep_field.new.self (record c.keep_field.new.self { slots = c.add.new.lists }) c.args.row (record { label = c.args.label; field = c.args.field })
    c.in_ok-keep_field.ensures.same c.in_ok-keep_field.ensures.work refl refl refl refl refl put c.requires.slot)
    c.add.ensures
