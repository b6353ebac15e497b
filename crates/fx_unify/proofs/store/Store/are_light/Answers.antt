use Rattle.std.proofs.Common.{subst}
use Rattle.fx_unify.specs.Light.{IsLightField}
use Rattle.fx_unify.proofs.PlainRowLaws.{slots_step, all_slots}
use Rattle.fx_unify.proofs.store.Store.are_light.Goals as goal

pub loop-slot-preserved : goal.loop-slot-preserved
loop-slot-preserved c =
    slots_step c.args.self.now c.args.sorts.now c.args.slots.now c.loop-slot.slot-index c.slot-item.result c.loop-slot-test.true c.slot-item.is
    (subst (IsLightField c.args.self.now c.args.sorts.now) c.view.ensures (c.in_ok-is_light_field.ensures c.if-not-branch.false)) c.loop-slot.invariant

pub returns : goal.returns
returns c = λ e. c.loop-slot.invariant (all_slots c.args.self.now c.args.sorts.now c.args.slots.now c.loop-slot.slot-index c.loop-slot-test.false)
