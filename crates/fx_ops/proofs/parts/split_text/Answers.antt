use Rattle.std.proofs.Common.{◌≡◌, map, ap, ◌∙◌}
use Rattle.fx_ops.specs.Parts.{parts}
use Rattle.fx_ops.proofs.PartLemmas.{limited-short, limited-whole}
use Rattle.fx_ops.proofs.parts.split_text.Goals as goal

pub returns-clause-whole : goal.returns-clause-whole
returns-clause-whole c =
    let found : map (λ part. part.now) c.as_slice.result.now ≡ parts c.args.by.now c.args.a.now =
    ap (map (λ part. part.now)) c.as_slice.ensures.value ∙ c.in_ok-parts.ensures ∙ (λ i. parts (c.as_str-2.ensures i) (c.as_str.ensures i)) in
    limited-whole c.args.by.now c.args.a.now _ c.texts_of.result found c.texts_of.ensures

pub returns-clause-range : goal.returns-clause-range
returns-clause-range c = limited-short (map (λ part. part.now) c.as_slice.result.now) c.texts_of.result c.texts_of.ensures
