use Rattle.std.proofs.Common.{nat_eq, ◌∙◌}
use Rattle.std.specs.List.{ends_with}
use Rattle.std.proofs.lemmas.Str.Pattern.{ends_text}
use Rattle.fx_ops.proofs.TextLemmas.{tested_is}
use Rattle.fx_ops.proofs.texts.has_suffix.Goals as goal

pub returns-clause-answer : goal.returns-clause-answer
returns-clause-answer c =
    let test = ends_text c.ends_with.result c.as_str-2.result.now c.as_str.result.now c.ends_with.ensures.cases in
    tested_is (λ text back. ends_with nat_eq text back) c.args.args.now c.in-Some.text.now c.in-Some-text_at.back.now c.ends_with.result c.in-Some.ensures c.in-Some-text_at.ensures
    (test ∙ (λ i. ends_with nat_eq (c.as_str.ensures i) (c.as_str-2.ensures i)))
