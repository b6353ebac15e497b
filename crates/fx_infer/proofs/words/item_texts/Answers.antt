use Rattle.std.proofs.Common.{[], ◌∙◌, ◌+◌, ap, sym, refl, drop, Some}
use Rattle.std.specs.Option.{option_copied}
use Rattle.fx_schemes.specs.Written.{with_first}
use Rattle.fx_infer.proofs.WrittenLaws.{behind, texts_in, read_start, read_more, read_none, read_all}
use Rattle.fx_infer.proofs.words.item_texts.Goals as goal

pub loop-item-init : goal.loop-item-init
loop-item-init c = read_start texts_in c.args.items.now 0 [] ∙ ap (λ ws. behind ws (texts_in c.args.items.now)) (sym c.empty-texts.ensures)

pub returns-in-None : goal.returns-in-None
returns-in-None c =
    sym (read_none texts_in c.args.items.now c.loop-item.item-index c.loop-item.texts c.item-item.result c.loop-item-test.true c.item-item.is c.loop-item.invariant
    (ap (λ o. with_first o (texts_in (drop (c.loop-item.item-index + 1) c.args.items.now))) (sym c.plain_text.ensures ∙ ap option_copied c.in-None.is)))

pub loop-item-preserved : goal.loop-item-preserved
loop-item-preserved c =
    read_more texts_in c.args.items.now c.loop-item.item-index c.loop-item.texts c.item-item.result c.loop-item-test.true c.item-item.is c.loop-item.invariant c.in_ok-copy.field-0 _
    (ap (λ o. with_first o (texts_in (drop (c.loop-item.item-index + 1) c.args.items.now))) (sym c.plain_text.ensures ∙ ap option_copied c.in-Some.is ∙ ap Some (sym c.in_ok-copy.ensures))) c.in_ok-push.ensures.ok

pub returns : goal.returns
returns c = sym (read_all texts_in c.args.items.now c.loop-item.item-index c.loop-item.texts refl c.loop-item-test.false c.loop-item.invariant)
