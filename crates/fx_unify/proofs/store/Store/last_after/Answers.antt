use Rattle.std.proofs.Common.{refl, ◌∙◌}
use Rattle.fx_types.specs.Term.{type_variable}
use Rattle.fx_unify.specs.Part.{p_is}
use Rattle.fx_unify.specs.Store.{entry}
use Rattle.fx_unify.proofs.StoreLaws.{stepped}
use Rattle.fx_unify.proofs.store.Store.last_after.Goals as goal

pub loop-step-init : goal.loop-step-init
loop-step-init c = λ s solved. refl

pub loop-step-preserved : goal.loop-step-preserved
loop-step-preserved c =
    λ s solved. c.loop-step.invariant s solved ∙ stepped (entry c.args.self.now) (p_is (type_variable c.loop-step.current)) (p_is (type_variable c.in-Some.next)) c.in-Some.ensures s solved
