use Rattle.std.proofs.Common.{[], ◌∙◌, ◌+◌, ap, sym, refl, drop, Some}
use Rattle.std.specs.Option.{option_copied}
use Rattle.fx_schemes.specs.Written.{with_first}
use Rattle.fx_infer.specs.Words.{plain_text}
use Rattle.fx_infer.proofs.WrittenLaws.{behind, news_in, value_at, read_start, read_more, read_none, read_all}
use Rattle.fx_infer.proofs.words.value_texts.Goals as goal

pub loop-item-init : goal.loop-item-init
loop-item-init c = read_start news_in c.args.props.now 0 [] ∙ ap (λ ws. behind ws (news_in c.args.props.now)) (sym c.empty-texts.ensures)

pub returns-in-None : goal.returns-in-None
returns-in-None c =
    sym (read_none news_in c.args.props.now c.loop-item.item-index c.loop-item.texts c.item-item.result c.loop-item-test.true c.item-item.is c.loop-item.invariant
    (ap (λ o. with_first o (news_in (drop (c.loop-item.item-index + 1) c.args.props.now))) (ap plain_text (value_at c.item-item.result) ∙ sym c.plain_text.ensures ∙ ap option_copied c.in-None.is)))

pub loop-item-preserved : goal.loop-item-preserved
loop-item-preserved c =
    read_more news_in c.args.props.now c.loop-item.item-index c.loop-item.texts c.item-item.result c.loop-item-test.true c.item-item.is c.loop-item.invariant c.in_ok-copy.field-0 _
    (ap (λ o. with_first o (news_in (drop (c.loop-item.item-index + 1) c.args.props.now))) (ap plain_text (value_at c.item-item.result) ∙ sym c.plain_text.ensures ∙ ap option_copied c.in-Some.is ∙ ap Some (sym c.in_ok-copy.ensures))) c.in_ok-push.ensures.ok

pub returns : goal.returns
returns c = sym (read_all news_in c.args.props.now c.loop-item.item-index c.loop-item.texts refl c.loop-item-test.false c.loop-item.invariant)
