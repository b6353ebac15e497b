use Rattle.std.proofs.Common.{sym, ap, ◌∙◌}
use mathlib.Core.Bool.{true≢false}
use Rattle.fx_types.specs.Ground.{listed}
use Rattle.fx_types.proofs.Lists.{take_all}
use Rattle.fx_unify.specs.Part.{p_slot}
use Rattle.fx_unify.specs.Store.{entry}
use Rattle.fx_unify.specs.View.{part_seen}
use Rattle.fx_generalize.specs.Open.{Ends}
use Rattle.fx_generalize.proofs.EndLaws.{listed_step}
use Rattle.fx_generalize.proofs.ends.see_slots.Goals as goal

pub loop-label-init : goal.loop-label-init
loop-label-init c = λ k h. absurd (true≢false (sym h))

pub loop-label-preserved : goal.loop-label-preserved
loop-label-preserved c =
    listed_step (λ k. Ends (entry c.args.bindings.now.store) (p_slot c.args.row k)) c.args.labels.now c.loop-label.label-index c.label-item.result c.loop-label-test.true c.label-item.is c.loop-label.invariant
    (part_seen c.in_ok-seen.field-0, (c.in_ok-seen.ensures.leads, c.in_ok-seen.ensures.free, c.in_ok-seen.ensures.same))

pub returns : goal.returns
returns c = λ k h. c.loop-label.invariant k (ap (listed k) (take_all c.args.labels.now c.loop-label.label-index c.loop-label-test.false) ∙ h)
