use Rattle.std.proofs.Common.{ap, ◌∙◌}
use Rattle.fx_types.specs.Ground.{listed}
use Rattle.fx_unify.proofs.labels.add_texts.Goals as goal
use Rattle.fx_unify.proofs.LabelLaws.{all_listed}
use Rattle.fx_unify.proofs.KnownLaws.{all_taken}

pub loop-label-preserved : goal.loop-label-preserved
loop-label-preserved c =
    all_listed (λ x. x) c.args.others.now c.loop-label.label-index c.label-item.result c.args.labels.now.items c.loop-label.labels.items c.add_label.new.labels.items
    c.loop-label-test.true c.label-item.is c.loop-label.invariant (c.in_ok-add_label.ensures.there, c.in_ok-add_label.ensures.grows)

pub loop-label-2-preserved : goal.loop-label-2-preserved
loop-label-2-preserved c =
    let h =
    all_listed (λ x. x) c.args.others.now c.loop-label-2.label-index c.label-item-in-loop-label-2.result c.args.labels.now.items c.loop-label-2.labels.items c.add.new.labels.items
    c.loop-label-2-test.true c.label-item-in-loop-label-2.is (c.loop-label-2.invariant.0, c.loop-label-2.invariant.1) (c.in_ok-add.ensures.there, c.in_ok-add.ensures.grows) in (h.0, h.1, c.in_ok-add.ensures.knows)

pub returns-clause-there : goal.returns-clause-there
returns-clause-there c = λ x h. c.loop-label-2.invariant.0 x (ap (listed x) (all_taken c.args.others.now c.loop-label-2.label-index c.loop-label-2-test.false) ∙ h)
