use Rattle.std.proofs.Common.{◌≡◌, refl, sym, ap, ◌∙◌, Some}
use Rattle.std.specs.Prelude.{option_map}
use Rattle.fx_unify.specs.Store.{entry, bound_to}
use Rattle.fx_unify.specs.View.{part_seen}
use Rattle.fx_unify.proofs.LeastLaws.{leads_nowhere, leads_on}
use Rattle.fx_unify.proofs.StoreLaws.{stepped}
use Rattle.fx_unify.proofs.store.Store.seen.Goals as goal

pub returns-in-None-clause-same : goal.returns-in-None-clause-same
returns-in-None-clause-same c = c.loop-step.invariant.0

pub returns-in-None-clause-leads : goal.returns-in-None-clause-leads
returns-in-None-clause-leads c = c.loop-step.invariant.1

pub loop-step-init : goal.loop-step-init
loop-step-init c = (λ s solved. refl, leads_nowhere (entry c.args.self.now) (part_seen c.args.view))

pub loop-step-preserved : goal.loop-step-preserved
loop-step-preserved c =
    let bound : bound_to (entry c.args.self.now) (part_seen c.loop-step.current) ≡ Some (part_seen c.in-Some.next) = sym c.view_after.ensures ∙ ap (option_map part_seen) c.in-Some.is in (
      λ s solved. sym (stepped (entry c.args.self.now) (part_seen c.loop-step.current) (part_seen c.in-Some.next) bound s solved) ∙ c.loop-step.invariant.0 s solved,
      leads_on c.args.self.now (part_seen c.args.view) (part_seen c.loop-step.current) (part_seen c.in-Some.next) c.loop-step.invariant.1 bound,
    )
