use Rattle.fx_infer.proofs.WrittenLaws.{labels_next, labels_all}
use Rattle.fx_infer.proofs.words.labels.Goals as goal

pub loop-item-preserved : goal.loop-item-preserved
loop-item-preserved c =
    labels_next c.args.props.now c.loop-item.item-index c.item-item.result c.loop-item.labels _ c.in_ok-copy.field-0 c.loop-item-test.true c.item-item.is c.loop-item.invariant c.in_ok-copy.ensures c.in_ok-push.ensures.ok

pub returns : goal.returns
returns c = labels_all c.args.props.now c.loop-item.item-index c.loop-item.labels c.loop-item-test.false c.loop-item.invariant
