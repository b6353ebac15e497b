use Rattle.std.proofs.Common.{refl}
use Rattle.fx_unify.proofs.StoreLaws.{on_ok, rest_bound}
use Rattle.fx_unify.proofs.store.Store.bind_rest.Goals as goal

pub returns : goal.returns
returns c =
    on_ok c.put.result
    (λ put. rest_bound c.args.self.now (record c.args.self.now { rests = c.put.new.items }) c.args.row c.args.root refl refl refl refl refl put c.requires)
    c.put.ensures
