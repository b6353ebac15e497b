use Rattle.fx_shape.proofs.Renames.{next_names}
use Rattle.fx_shape.proofs.renaming.fixes_key.Goals as goal

pub loop-i-preserved : goal.loop-i-preserved
loop-i-preserved c =
    next_names c.args.olds.now c.args.news.now c.args.key.now c.args.renamed.now c.loop-i.i c.index-olds-i.result c.loop-i-test.true c.index-olds-i.is c.loop-i.invariant
    c.index-news-i.result c.if-i-news.false c.index-news-i.is c.is_fixed.result c.is_fixed.ensures c.if-not-is_fixed.false
