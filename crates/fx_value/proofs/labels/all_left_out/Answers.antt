use Rattle.std.proofs.Common.{◌∙◌, arith}
use Rattle.std.specs.FinMap as map
use Rattle.fx_value.proofs.LabelLaws.{left_out_more}
use Rattle.fx_value.proofs.labels.all_left_out.Goals as goal

pub loop-change-preserved : goal.loop-change-preserved
loop-change-preserved c =
    c.in_ok-left-2.ensures
    ∙ (λ i. map.remove (c.loop-change.invariant i) (c.label.ensures i))
    ∙ left_out_more c.args.changes.now c.loop-change.change-index c.change-item.result c.args.head.now.value (omega arith) c.change-item.is
