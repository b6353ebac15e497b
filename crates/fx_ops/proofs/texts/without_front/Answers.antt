use Rattle.std.proofs.Common.{◌≡◌, length, drop, sym, ap, ◌∙◌}
use Rattle.fx_ops.specs.Texts.{without_front}
use Rattle.fx_ops.proofs.TextLemmas.{without_front-there, without_front-lacking}
use Rattle.fx_ops.proofs.texts.without_front.Goals as goal

pub returns-in-Some : goal.returns-in-Some
returns-in-Some c =
    let text = c.as_str.result.now in
    let cases = c.in-Some.ensures.cases in
    let there = without_front-there c.args.front.now text (drop cases.0 text) cases.1.1 in
    let rest : drop (length c.args.front.now) text ≡ c.in-Some.rest.now = ap (λ n. drop n text) (sym cases.1.0) ∙ sym cases.2 in
    let is : without_front c.args.front.now c.args.text.now ≡ c.in-Some.rest.now = ap (without_front c.args.front.now) (sym c.as_str.ensures) ∙ there ∙ rest in
    rw is c.limited.ensures

pub returns-in-None : goal.returns-in-None
returns-in-None c =
    let lacking = without_front-lacking c.args.front.now c.as_str.result.now c.in-None.ensures.cases in
    let is : without_front c.args.front.now c.args.text.now ≡ c.args.text.now = ap (without_front c.args.front.now) (sym c.as_str.ensures) ∙ lacking ∙ c.as_str.ensures in
    rw is c.kept.ensures
