use Rattle.std.proofs.Common.{refl, sym, ◌∙◌}
use Rattle.fx_types.specs.Shape.{term}
use Rattle.fx_unify.specs.Part.{p_is}
use Rattle.fx_unify.specs.Store.{entry}
use Rattle.fx_unify.proofs.LeastLaws.{leads_nowhere, leads_on}
use Rattle.fx_unify.proofs.StoreLaws.{stepped}
use Rattle.fx_unify.proofs.store.Store.head.Goals as goal

pub returns-in-None-clause-same : goal.returns-in-None-clause-same
returns-in-None-clause-same c = c.loop-step.invariant.0

pub returns-in-None-clause-leads : goal.returns-in-None-clause-leads
returns-in-None-clause-leads c = c.loop-step.invariant.1

pub loop-step-init : goal.loop-step-init
loop-step-init c = (λ s solved. refl, leads_nowhere (entry c.args.self.now) (p_is (term c.args.ty.now)))

pub loop-step-preserved : goal.loop-step-preserved
loop-step-preserved c = (
  λ s solved. sym (stepped (entry c.args.self.now) (p_is (term c.loop-step.current.now)) (p_is (term c.in-Some.next.now)) c.in-Some.ensures s solved) ∙ c.loop-step.invariant.0 s solved,
  leads_on c.args.self.now (p_is (term c.args.ty.now)) (p_is (term c.loop-step.current.now)) (p_is (term c.in-Some.next.now)) c.loop-step.invariant.1 c.in-Some.ensures,
)
