use Rattle.std.proofs.Common.{ap, ◌∙◌, arith}
use Rattle.fx_value.specs.Change.{changed_head}
use Rattle.fx_value.proofs.Rows.{changed_more}
use Rattle.fx_value.proofs.change.head_after.Goals as goal

pub loop-change-preserved : goal.loop-change-preserved
loop-change-preserved c =
    c.in_ok-made-2.ensures ∙ ap (changed_head c.change-item.result) c.loop-change.invariant
    ∙ changed_more c.args.changes.now c.loop-change.change-index c.change-item.result c.args.head.now.value (omega arith) c.change-item.is
