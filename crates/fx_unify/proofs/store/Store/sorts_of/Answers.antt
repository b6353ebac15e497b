use Rattle.fx_unify.proofs.BoundLaws.{start_at, one_narrowed, one_refused, all_narrowed, all_bounds_met}
use Rattle.fx_unify.proofs.store.Store.sorts_of.Goals as goal

pub loop-bound-init : goal.loop-bound-init
loop-bound-init c = start_at c.args.self.now c.new-sorts.result.items c.new-sorts.ensures.items

pub returns-in-Err-clause-clash : goal.returns-in-Err-clause-clash
returns-in-Err-clause-clash c =
    one_refused c.args.self.now c.loop-bound.sorts.items c.narrow.new.sorts.items c.args.bounds.now c.loop-bound.bound-index c.bound-item.result c.in-Err.fault c.loop-bound-test.true c.bound-item.is c.loop-bound.invariant c.in-Err.ensures

pub loop-bound-preserved : goal.loop-bound-preserved
loop-bound-preserved c =
    one_narrowed c.args.self.now c.loop-bound.sorts.items c.narrow.new.sorts.items c.args.bounds.now c.loop-bound.bound-index c.bound-item.result c.loop-bound-test.true c.bound-item.is c.loop-bound.invariant c.in-Ok.ensures

pub returns-clause-ok : goal.returns-clause-ok
returns-clause-ok c = all_narrowed c.args.self.now c.loop-bound.sorts.items c.args.bounds.now c.loop-bound.bound-index c.loop-bound-test.false c.loop-bound.invariant

pub returns-clause-met : goal.returns-clause-met
returns-clause-met c = all_bounds_met c.args.self.now c.loop-bound.sorts.items c.args.bounds.now c.loop-bound.bound-index c.loop-bound-test.false c.loop-bound.invariant
