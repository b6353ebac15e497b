use Rattle.std.proofs.Common.{sym, ◌∙◌}
use Rattle.fx_shape.proofs.Named.{named_later}
use Rattle.fx_shape.proofs.naming.new_name.Goals as goal

pub loop-i-preserved : goal.loop-i-preserved
loop-i-preserved c =
    named_later c.args.olds.now c.args.news.now c.args.label.now c.loop-i.i c.index-olds-i.result c.loop-i-test.true c.if-i-news.false c.index-olds-i.is
    (sym c.eq.ensures ∙ c.if-eq.false) c.loop-i.invariant
