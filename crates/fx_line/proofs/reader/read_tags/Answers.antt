use Rattle.std.proofs.Common.{◌≡◌, map, List, Option, IfOk, IfSome, IfNone, sym, ap, ◌∙◌, subst}
use Rattle.std.specs.Prelude.{All}
use Rattle.std.specs.List.{IsDistinct}
use Rattle.std.proofs.lemmas.Result.{IfOk-weaker}
use Rattle.std.specs.declared.vec.Vec.{Vec}
use Rattle.std.specs.declared.alloc.Global.{Global}
use Rattle.fx_base.specs.Text.{same_text}
use Rattle.fx_line.specs.declared.point.Tag.{Tag}
use Rattle.fx_line.specs.Collected.{IsTextPair}
use Rattle.fx_line.specs.Line.{Pair, Written, name_said, tag_said, sort_tags}
use Rattle.fx_line.specs.Order.{key_of}
use Rattle.fx_line.proofs.Lawful.{keys_said}
use Rattle.fx_line.proofs.reader.read_tags.Goals as goal

pub tags_said-requires : goal.tags_said-requires
tags_said-requires c =
    let same : c.as_slice.result.now ≡ c.args.parts.now.tags = c.as_slice.ensures.value ∙ ap (λ (w : Written). w.tags) c.parts.view_is in
    subst (All IsTextPair) (sym same) c.requires

pub returns-clause-found : goal.returns-clause-found
returns-clause-found c =
    let given : c.in_ok-tags_said.field-0.items ≡ map tag_said c.args.parts.now.tags = c.in_ok-tags_said.ensures ∙ ap (map tag_said) (c.as_slice.ensures.value ∙ ap (λ (w : Written). w.tags) c.parts.view_is) in
    let keys : map key_of c.in_ok-tags_said.field-0.items ≡ map name_said c.args.parts.now.tags = ap (map key_of) given ∙ keys_said c.args.parts.now.tags in
    subst (λ (l : List Tag). IfOk c.sorted_tags.result (λ o. IfSome o (λ v. IsDistinct same_text (map name_said c.args.parts.now.tags) × (v.items ≡ sort_tags l)))) given
    (subst (λ l. IfOk c.sorted_tags.result (λ o. IfSome o (λ v. IsDistinct same_text l × (v.items ≡ sort_tags c.in_ok-tags_said.field-0.items)))) keys c.sorted_tags.ensures.found)

pub returns-clause-none : goal.returns-clause-none
returns-clause-none c =
    let given : c.in_ok-tags_said.field-0.items ≡ map tag_said c.args.parts.now.tags = c.in_ok-tags_said.ensures ∙ ap (map tag_said) (c.as_slice.ensures.value ∙ ap (λ (w : Written). w.tags) c.parts.view_is) in
    let keys : map key_of c.in_ok-tags_said.field-0.items ≡ map name_said c.args.parts.now.tags = ap (map key_of) given ∙ keys_said c.args.parts.now.tags in
    subst (λ l. IfOk c.sorted_tags.result (λ o. IfNone o (IsDistinct same_text l → ⊥))) keys c.sorted_tags.ensures.none
