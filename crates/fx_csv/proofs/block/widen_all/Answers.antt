-- One more column is widened.
use Rattle.std.proofs.Common.{◌∙◌, ◌<◌, length, set, ap, arith}
use Rattle.fx_csv.proofs.BlockSteps.{widened_next}
use Rattle.fx_csv.proofs.block.widen_all.Goals as goal

pub loop-i-preserved : goal.loop-i-preserved
loop-i-preserved c =
    let inside : c.loop-i.i < length c.args.columns.now.items = omega arith in
    ap (set c.loop-i.columns.items c.loop-i.i) c.widen.ensures
    ∙ widened_next c.loop-i.i c.loop-i.columns.items c.args.columns.now.items c.args.others.now c.index_mut.result.now c.index-others-i.result
    c.loop-i.invariant inside c.requires c.index_mut.ensures.value c.index-others-i.is
