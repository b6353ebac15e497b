use Rattle.std.proofs.Common.{refl, sym, ◌∙◌}
use Rattle.fx_types.specs.Term.{type_variable}
use Rattle.fx_unify.specs.Part.{p_is}
use Rattle.fx_unify.specs.Store.{entry}
use Rattle.fx_unify.proofs.KeptLaws.{nodes_before}
use Rattle.fx_unify.proofs.LeastLaws.{leads_nowhere, leads_on}
use Rattle.fx_unify.proofs.StoreLaws.{stepped}
use Rattle.fx_unify.proofs.store.Store.kept_nodes.Goals as goal

pub loop-step-init : goal.loop-step-init
loop-step-init c = (λ s solved. refl, leads_nowhere (entry c.args.self.now) (p_is (type_variable c.args.variable)))

pub returns-in-Some : goal.returns-in-Some
returns-in-Some c =
    λ ks counted. nodes_before c.args.self.now ks c.args.counts.now c.args.variable c.loop-step.current c.in-Some.nodes c.at.result counted c.at.ensures c.in-Some.is c.loop-step.invariant.1 c.loop-step.invariant.0

pub loop-step-preserved : goal.loop-step-preserved
loop-step-preserved c = (
  λ s solved. sym (stepped (entry c.args.self.now) (p_is (type_variable c.loop-step.current)) (p_is (type_variable c.in-Some-variable_after.next)) c.in-Some-variable_after.ensures s solved) ∙ c.loop-step.invariant.0 s solved,
  leads_on c.args.self.now (p_is (type_variable c.args.variable)) (p_is (type_variable c.loop-step.current)) (p_is (type_variable c.in-Some-variable_after.next)) c.loop-step.invariant.1 c.in-Some-variable_after.ensures,
)
