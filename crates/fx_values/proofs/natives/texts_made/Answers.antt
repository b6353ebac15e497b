use Rattle.std.proofs.Common.{subst}
use Rattle.fx_meaning.specs.Ends.{pure}
use Rattle.fx_meaning.specs.Value.{array}
use Rattle.fx_values.specs.Shape.{val}
use Rattle.fx_values.specs.Told.{Tells}
use Rattle.fx_values.proofs.TextLaws.{texts_done, texts_more}
use Rattle.fx_values.proofs.natives.texts_made.Goals as goal

pub returns : goal.returns
returns c =
    subst (λ vs. Tells val (pure (array vs)) c.array_of.result)
    (texts_done c.loop-text.items c.args.texts.now c.loop-text.text-index c.loop-text-test.false c.loop-text.invariant) c.array_of.ensures

pub loop-text-preserved : goal.loop-text-preserved
loop-text-preserved c =
    texts_more c.loop-text.items c.push.new.self c.args.texts.now c.loop-text.text-index c.text-item.result c.in_ok-copy.field-0
    c.loop-text-test.true c.text-item.is c.in_ok-copy.ensures c.in_ok-push.ensures.ok c.loop-text.invariant
