use Rattle.std.proofs.Common.{sym, ap, subst, ◌∙◌, None}
use Rattle.std.specs.Prelude.{codes}
use Rattle.fx_schemes.specs.Builtins.{IsLine, Folds, OfWindows}
use Rattle.fx_schemes.specs.Folds.{fold_of}
use Rattle.fx_schemes.specs.Scheme.{IsSchemeOf, shown}
use Rattle.fx_schemes.proofs.SchemeLaws.{of_word, no_word, same_word}
use Rattle.fx_schemes.proofs.WindowLaws.{no_windows}
use Rattle.fx_schemes.proofs.aggregates.aggregate_window.Goals as goal

pub returns-in_default : goal.returns-in_default
unfolding IsLine
returns-in_default c = λ L h. no_word _ h.0 (sym c.in_default.ensures) h.1

pub returns-in_default-fold_of : goal.returns-in_default-fold_of
unfolding IsLine
returns-in_default-fold_of c = λ L h.
    let name = same_word _ h.0 c.in-Some.name.now h.1 (sym c.in-Some.ensures) in
    no_windows (fold_of h.0) L (ap fold_of (name ∙ sym c.as_bytes.ensures.value) ∙ sym c.in_default-fold_of.ensures) h.2

pub returns : goal.returns
unfolding IsLine
returns c =
    of_word c.args.given.now (codes "fn") None (λ f. OfWindows (Folds (fold_of f))) c.in-Some.name.now (sym c.in-Some.ensures) (shown c.in_ok-folded.field-0)
    (subst (λ o. IsSchemeOf (OfWindows (Folds o)) (shown c.in_ok-folded.field-0)) (c.in-Some-fold_of.ensures ∙ ap fold_of c.as_bytes.ensures.value) c.in_ok-folded.ensures)
