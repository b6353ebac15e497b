use Rattle.fx_rowfn.proofs.ArgumentLaws.{due_more}
use Rattle.fx_rowfn.proofs.arguments.due_labels.Goals as goal

pub loop-first-preserved : goal.loop-first-preserved
loop-first-preserved c =
    due_more c.loop-first.labels c.push_due.new.labels c.args.params.now c.loop-first.first-index c.first-item.result c.loop-first-test.true c.first-item.is c.loop-first.invariant c.in_ok-push_due.ensures
