use Rattle.std.proofs.Common.{◌∙◌}
use Rattle.std.proofs.lemmas.Str.Pattern.{contains_text}
use Rattle.fx_ops.specs.Texts.{occurs}
use Rattle.fx_ops.proofs.TextLemmas.{occurs_is, tested_is}
use Rattle.fx_ops.proofs.texts.contains_str.Goals as goal

pub returns-clause-answer : goal.returns-clause-answer
returns-clause-answer c =
    let test = occurs_is c.contains.result c.as_str-2.result.now c.as_str.result.now (contains_text c.contains.result c.as_str-2.result.now c.as_str.result.now c.contains.ensures.cases) in
    tested_is (λ text part. occurs part text) c.args.args.now c.in-Some.text.now c.in-Some-text_at.part.now c.contains.result c.in-Some.ensures c.in-Some-text_at.ensures
    (test ∙ (λ i. occurs (c.as_str-2.ensures i) (c.as_str.ensures i)))
