use Rattle.fx_unify.proofs.CompareLaws.{linked_off}
use Rattle.fx_unify.proofs.StoreLaws.{on_ok}
use Rattle.fx_unify.proofs.store.Store.link.Goals as goal

pub returns : goal.returns
returns c =
    on_ok c.bind_rest.result
    (λ bound s. linked_off c.args.self.now c.keep_all.new.self c.bind_rest.new.self s c.args.row c.args.root c.args.labels.now c.in_ok-keep_all.ensures c.requires.kept (bound s))
    c.bind_rest.ensures
