use Rattle.std.proofs.Common.{refl}
use Rattle.fx_unify.proofs.StoreLaws.{on_ok, field_bound}
use Rattle.fx_unify.proofs.store.Store.bind_field.Goals as goal

pub returns : goal.returns
returns c =
    on_ok c.put.result
    (λ put. field_bound c.args.self.now c.keep_field.new.self (record c.keep_field.new.self { fields = c.put.new.items }) c.args.number c.args.field
    c.in_ok-keep_field.ensures.same c.in_ok-keep_field.ensures.work refl refl refl refl refl put c.requires.var)
    c.put.ensures
