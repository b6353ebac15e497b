use Rattle.std.proofs.Common.{◌≡◌, true}
use Rattle.fx_types.specs.Ground.{listed}
use Rattle.fx_types.specs.Term.{Label}
use Rattle.fx_unify.specs.Decide.{Fixed}
use Rattle.fx_unify.specs.Measure.{least}
use Rattle.fx_unify.proofs.DecideLaws.{slots_none, slots_more, slots_all, slot_wrong}
use Rattle.fx_unify.proofs.store.Store.check_labels.Goals as goal

pub loop-label-init : goal.loop-label-init
loop-label-init c = (slots_none c.args.self.now c.args.sorts.now c.args.row c.args.labels.now, c.requires)

pub loop-label-preserved : goal.loop-label-preserved
loop-label-preserved c = (
  slots_more c.args.self.now c.args.sorts.now c.args.row c.args.labels.now c.loop-label.label-index c.label-item.result c.in_default.field-0 c.loop-label-test.true c.label-item.is c.loop-label.invariant.0 c.in_default.ensures.nodes,
  c.count_view.ensures.counts,
)

pub returns-in-Err-clause-checked : goal.returns-in-Err-clause-checked
returns-in-Err-clause-checked c =
    slot_wrong c.args.self.now c.args.sorts.now c.args.row c.label-item.result c.in-Err.fault
    (λ k. (l : Label) → listed l c.args.labels.now ≡ true → Fixed (least c.args.self.now c.args.sorts.now) (λ s. s.row_of c.args.row l) k) c.in-Err.ensures.nodes

pub returns-clause-checked : goal.returns-clause-checked
returns-clause-checked c = slots_all c.args.self.now c.args.sorts.now c.args.row c.args.labels.now c.loop-label.label-index c.loop-label-test.false c.loop-label.invariant.0
