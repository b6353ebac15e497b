use Rattle.std.proofs.Common.{◌≡◌, ◌-◌, sym, subst, drop, arith}
use Rattle.std.proofs.lemmas.List.Elements.{All-get_or}
use Rattle.fx_line.specs.Collected.{IsTextPair}
use Rattle.fx_line.proofs.Collecting.{seen_more}
use Rattle.fx_line.proofs.points.points_of.Goals as goal

pub take-requires-clause-text : goal.take-requires-clause-text
take-requires-clause-text c =
    subst IsTextPair (sym c.index-fields-left.is) (All-get_or IsTextPair c.args.fields.now (c.loop-left.left - 1) c.index-fields-left.result (omega (arith, c.loop-left.invariant.within)) c.requires.text)

pub loop-left-preserved : goal.loop-left-preserved
loop-left-preserved c =
    seen_more c.args.head.now.measurement c.args.head.now.tags.items c.args.head.now.time c.args.fields.now c.loop-left.left c.index-fields-left.result c.loop-left.collected c.take.new.self
    c.loop-left.invariant (omega arith) c.index-fields-left.is (c.in_ok-take.ensures.more (drop c.loop-left.left c.args.fields.now))
