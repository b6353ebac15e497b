use Rattle.fx_unify.proofs.JudgeLaws.{term_checked, term_refused, terms_checked}
use Rattle.fx_unify.proofs.store.Store.check_terms.Goals as goal

pub returns-in-Err-clause-checked : goal.returns-in-Err-clause-checked
returns-in-Err-clause-checked c =
    term_refused c.args.self.now c.args.sorts.now c.args.terms.now c.loop-ty.ty-index c.ty-item.result c.in-Err.fault c.loop-ty-test.true c.ty-item.is c.in-Err.ensures.nodes

pub loop-ty-preserved : goal.loop-ty-preserved
loop-ty-preserved c =
    (term_checked c.args.self.now c.args.sorts.now c.args.terms.now c.loop-ty.ty-index c.ty-item.result c.in-Ok.field-0 c.loop-ty-test.true c.ty-item.is c.loop-ty.invariant.0 c.in-Ok.ensures.nodes, c.count.ensures.counts)

pub returns-clause-checked : goal.returns-clause-checked
returns-clause-checked c =
    terms_checked c.args.self.now c.args.sorts.now c.args.terms.now c.loop-ty.ty-index c.loop-ty-test.false c.loop-ty.invariant.0
