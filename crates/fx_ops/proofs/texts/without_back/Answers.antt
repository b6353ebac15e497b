use Rattle.std.proofs.Common.{◌≡◌, ◌-◌, length, take, sym, ap, ◌∙◌}
use Rattle.fx_ops.specs.Texts.{without_back}
use Rattle.fx_ops.proofs.TextLemmas.{without_back-there, without_back-lacking}
use Rattle.fx_ops.proofs.texts.without_back.Goals as goal

pub returns-in-Some : goal.returns-in-Some
returns-in-Some c =
    let text = c.as_str.result.now in
    let cases = c.in-Some.ensures.cases in
    let there = without_back-there c.args.back.now text (take (length text - cases.0) text) cases.1.1 in
    let rest : take (length text - length c.args.back.now) text ≡ c.in-Some.rest.now = ap (λ n. take (length text - n) text) (sym cases.1.0) ∙ sym cases.2 in
    let is : without_back c.args.back.now c.args.text.now ≡ c.in-Some.rest.now = ap (without_back c.args.back.now) (sym c.as_str.ensures) ∙ there ∙ rest in
    rw is c.limited.ensures

pub returns-in-None : goal.returns-in-None
returns-in-None c =
    let lacking = without_back-lacking c.args.back.now c.as_str.result.now c.in-None.ensures.cases in
    let is : without_back c.args.back.now c.args.text.now ≡ c.args.text.now = ap (without_back c.args.back.now) (sym c.as_str.ensures) ∙ lacking ∙ c.as_str.ensures in
    rw is c.kept.ensures
