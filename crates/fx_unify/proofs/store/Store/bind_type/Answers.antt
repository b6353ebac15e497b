use Rattle.std.proofs.Common.{refl}
use Rattle.fx_unify.proofs.StoreLaws.{on_ok, type_bound}
use Rattle.fx_unify.proofs.store.Store.bind_type.Goals as goal

pub returns : goal.returns
returns c =
    on_ok c.put.result
    (λ put. type_bound c.args.self.now (record c.args.self.now { types = c.put.new.items }) c.args.number c.args.ty refl refl refl refl refl put c.requires)
    c.put.ensures
