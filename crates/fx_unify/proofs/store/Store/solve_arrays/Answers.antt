use Rattle.fx_unify.proofs.Cases.{is_an_array}
use Rattle.fx_unify.proofs.HeadLaws.{pushed, arrays}
use Rattle.fx_unify.proofs.store.Store.solve_arrays.Goals as goal

pub returns-in_ok-put_off-in-Array : goal.returns-in_ok-put_off-in-Array
returns-in_ok-put_off-in-Array c =
    λ s. pushed c.args.self.now (record c.args.self.now { work = c.put_off.new.work }) s (arrays s c.args.element c.into_inner.result c.in-Array.right c.args.other c.into_inner.ensures c.in-Array.is)
    (c.in_ok-put_off-in-Array.ensures s)

pub returns-in_default : goal.returns-in_default
returns-in_default c = λ s holds e within. is_an_array c.args.other c.requires c.in_default.not-Array
