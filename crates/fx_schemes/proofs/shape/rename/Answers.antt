use Rattle.std.proofs.Common.{◌≡◌, sym, ap, subst, ◌∙◌, true}
use Rattle.std.specs.Prelude.{codes}
use mathlib.Core.Bool.{true≢false}
use Rattle.fx_schemes.specs.Builtins.{IsLine, OfRename, are_names}
use Rattle.fx_schemes.specs.Given.{texts_of, words_at}
use Rattle.fx_schemes.specs.Scheme.{IsSchemeOf, shown}
use Rattle.fx_schemes.proofs.NameLaws.{same_names}
use Rattle.fx_schemes.proofs.SchemeLaws.{of_some, no_word, same_word, tested}
use Rattle.fx_schemes.proofs.shape.rename.Goals as goal

pub returns-in_default : goal.returns-in_default
unfolding IsLine
returns-in_default c = λ L h. no_word _ h.0 (sym c.in_default.ensures) h.1

pub returns-then-not-are_names : goal.returns-then-not-are_names
unfolding IsLine
returns-then-not-are_names c = λ L h.
    let entry = same_word _ h.0 c.in-Some.entry.now h.1 (sym c.in-Some.ensures) in
    let olds = ap texts_of c.deref.ensures.value ∙ c.in_ok-olds.ensures ∙ c.as_slice.ensures in
    let news = ap texts_of c.deref-2.ensures.value ∙ c.in_ok-news.ensures ∙ c.as_slice-2.ensures in
    absurd (true≢false (sym (subst (λ g. are_names g.words g.news ≡ true) entry h.2.0)
    ∙ same_names _ _ _ _ (sym olds) (sym news)
    ∙ sym c.are_names.ensures
    ∙ c.if-not-are_names.true))

pub returns : goal.returns
unfolding IsLine
returns c =
    let scheme = shown c.in_ok-rename_these.field-0 in
    let olds = ap texts_of c.deref.ensures.value ∙ c.in_ok-olds.ensures ∙ c.as_slice.ensures in
    let news = ap texts_of c.deref-2.ensures.value ∙ c.in_ok-news.ensures ∙ c.as_slice-2.ensures in
    let old_words = ap texts_of c.deref-3.ensures.value ∙ c.in_ok-olds.ensures ∙ c.as_slice.ensures in
    let new_words = ap texts_of c.deref-4.ensures.value ∙ c.in_ok-news.ensures ∙ c.as_slice-2.ensures in
    of_some (words_at c.args.given.now (codes "columns")) _ c.in-Some.entry.now (sym c.in-Some.ensures) scheme
    (tested _ (OfRename c.in-Some.entry.now.words c.in-Some.entry.now.news) scheme
    (same_names _ _ _ _ (sym olds) (sym news) ∙ sym c.are_names.ensures ∙ c.if-not-are_names.false)
    (subst (λ xs. IsSchemeOf (OfRename xs c.in-Some.entry.now.news) scheme) old_words
    (subst (λ ys. IsSchemeOf (OfRename (texts_of c.deref-3.result.now) ys) scheme) new_words c.in_ok-rename_these.ensures)))
