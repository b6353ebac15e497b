use Rattle.fx_unify.proofs.labels.add_names.Goals as goal
use Rattle.fx_unify.proofs.LabelLaws.{all_listed}

pub loop-entry-preserved : goal.loop-entry-preserved
loop-entry-preserved c =
    all_listed (λ e. e.label) c.args.entries.now c.loop-entry.entry-index c.entry-item.result c.args.labels.now.items c.loop-entry.labels.items c.add_label.new.labels.items
    c.loop-entry-test.true c.entry-item.is c.loop-entry.invariant (c.in_ok-add_label.ensures.there, c.in_ok-add_label.ensures.grows)

pub loop-entry-2-preserved : goal.loop-entry-2-preserved
loop-entry-2-preserved c =
    let h =
    all_listed (λ e. e.label) c.args.entries.now c.loop-entry-2.entry-index c.entry-item-in-loop-entry-2.result c.args.labels.now.items c.loop-entry-2.labels.items c.add.new.labels.items
    c.loop-entry-2-test.true c.entry-item-in-loop-entry-2.is (c.loop-entry-2.invariant.0, c.loop-entry-2.invariant.1) (c.in_ok-add.ensures.there, c.in_ok-add.ensures.grows) in (h.0, h.1, c.in_ok-add.ensures.knows)
