use Rattle.std.proofs.Common.{sym, refl, ap, subst, ◌∙◌, None}
use Rattle.std.specs.Prelude.{codes}
use mathlib.Core.Bool.{true≢false}
use Rattle.fx_schemes.specs.Builtins.{IsLine, OfPivot}
use Rattle.fx_schemes.specs.Given.{texts_of, list_at}
use Rattle.fx_schemes.specs.Scheme.{IsSchemeOf, shown}
use Rattle.fx_schemes.proofs.PivotLaws.{same_apart}
use Rattle.fx_schemes.proofs.Results.{mapped_none, mapped_some}
use Rattle.fx_schemes.proofs.SchemeLaws.{of_some, of_word, no_word, same_word, tested}
use Rattle.fx_schemes.proofs.shape.pivot.Goals as goal

pub returns-in_default : goal.returns-in_default
unfolding IsLine
returns-in_default c = λ L h. no_word _ h.0 (mapped_none _ _ _ c.in_ok-keys.ensures c.in_default.is) h.1

pub returns-in_default-2 : goal.returns-in_default-2
unfolding IsLine
returns-in_default-2 c = λ L h. no_word _ h.2.0 (mapped_none _ _ _ c.in_ok-names.ensures c.in_default-2.is) h.2.1

pub returns-in_default-text_at : goal.returns-in_default-text_at
unfolding IsLine
returns-in_default-text_at c = λ L h. no_word _ h.2.2.0 (sym c.in_default-text_at.ensures) h.2.2.1

pub returns-then-not-are_apart : goal.returns-then-not-are_apart
unfolding IsLine
returns-then-not-are_apart c = λ L h.
    let keys = same_word _ h.0 (texts_of c.in-Some.keys.items) h.1 (mapped_some _ _ _ _ c.in_ok-keys.ensures c.in-Some.is) in
    let names = same_word _ h.2.0 (texts_of c.in-Some-2.names.items) h.2.1 (mapped_some _ _ _ _ c.in_ok-names.ensures c.in-Some-2.is) in
    let value = same_word _ h.2.2.0 c.in-Some-text_at.value.now h.2.2.1 (sym c.in-Some-text_at.ensures) in
    absurd (true≢false (sym h.2.2.2.0
    ∙ same_apart _ _ _ _ _ _ (keys ∙ ap texts_of (sym c.deref.ensures.value)) (names ∙ ap texts_of (sym c.deref-2.ensures.value)) value
    ∙ sym c.are_apart.ensures
    ∙ c.if-not-are_apart.true))

pub returns : goal.returns
unfolding IsLine
returns c =
    let apart =
    same_apart _ _ _ _ _ _ (ap texts_of (sym c.deref.ensures.value)) (ap texts_of (sym c.deref-2.ensures.value)) refl
    ∙ sym c.are_apart.ensures
    ∙ c.if-not-are_apart.false in
    let scheme = shown c.in_ok-pivot_these.field-0 in
    of_some (list_at c.args.given.now (codes "rowKey") None) _ (texts_of c.in-Some.keys.items) (mapped_some _ _ _ _ c.in_ok-keys.ensures c.in-Some.is) scheme
    (of_some (list_at c.args.given.now (codes "columnKey") None) _ (texts_of c.in-Some-2.names.items) (mapped_some _ _ _ _ c.in_ok-names.ensures c.in-Some-2.is) scheme
    (of_word c.args.given.now (codes "valueColumn") None _ c.in-Some-text_at.value.now (sym c.in-Some-text_at.ensures) scheme
    (tested _ (OfPivot (texts_of c.in-Some.keys.items) (texts_of c.in-Some-2.names.items) c.in-Some-text_at.value.now) scheme apart
    (subst (λ xs. IsSchemeOf (OfPivot (texts_of xs) (texts_of c.in-Some-2.names.items) c.in-Some-text_at.value.now) scheme) c.deref-3.ensures.value
    (subst (λ ys. IsSchemeOf (OfPivot (texts_of c.deref-3.result.now) (texts_of ys) c.in-Some-text_at.value.now) scheme) c.deref-4.ensures.value
    c.in_ok-pivot_these.ensures)))))
