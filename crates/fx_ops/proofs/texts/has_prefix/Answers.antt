use Rattle.std.proofs.Common.{nat_eq, ◌∙◌}
use Rattle.std.specs.List.{starts_with}
use Rattle.std.proofs.lemmas.Str.Pattern.{starts_text}
use Rattle.fx_ops.proofs.TextLemmas.{tested_is}
use Rattle.fx_ops.proofs.texts.has_prefix.Goals as goal

pub returns-clause-answer : goal.returns-clause-answer
returns-clause-answer c =
    let test = starts_text c.starts_with.result c.as_str-2.result.now c.as_str.result.now c.starts_with.ensures.cases in
    tested_is (λ text front. starts_with nat_eq text front) c.args.args.now c.in-Some.text.now c.in-Some-text_at.front.now c.starts_with.result c.in-Some.ensures c.in-Some-text_at.ensures
    (test ∙ (λ i. starts_with nat_eq (c.as_str.ensures i) (c.as_str-2.ensures i)))
