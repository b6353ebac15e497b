use Rattle.fx_unify.proofs.labels.add_slots.Goals as goal
use Rattle.fx_unify.proofs.LabelLaws.{all_listed}

pub loop-slot-preserved : goal.loop-slot-preserved
loop-slot-preserved c =
    all_listed (λ c. c.label) c.args.slots.now c.loop-slot.slot-index c.slot-item.result c.args.labels.now.items c.loop-slot.labels.items c.add_label.new.labels.items
    c.loop-slot-test.true c.slot-item.is c.loop-slot.invariant (c.in_ok-add_label.ensures.there, c.in_ok-add_label.ensures.grows)

pub loop-slot-2-preserved : goal.loop-slot-2-preserved
loop-slot-2-preserved c =
    let h =
    all_listed (λ c. c.label) c.args.slots.now c.loop-slot-2.slot-index c.slot-item-in-loop-slot-2.result c.args.labels.now.items c.loop-slot-2.labels.items c.add.new.labels.items
    c.loop-slot-2-test.true c.slot-item-in-loop-slot-2.is (c.loop-slot-2.invariant.0, c.loop-slot-2.invariant.1) (c.in_ok-add.ensures.there, c.in_ok-add.ensures.grows) in (h.0, h.1, c.in_ok-add.ensures.knows)
