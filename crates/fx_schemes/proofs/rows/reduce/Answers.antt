use Rattle.std.proofs.Common.{refl, ap, ◌∙◌, [], ◌∷◌, lit≤}
use Rattle.std.specs.Prelude.{codes}
use Rattle.fx_schemes.specs.Plan.{labelled}
use Rattle.fx_schemes.proofs.SchemeLaws.{by_scheme, built, rows_solution, same_more, same_piped, free}
use Rattle.fx_schemes.specs.Builtins.{IsLine}
use Rattle.fx_schemes.specs.Scheme.{shown}
use Rattle.fx_schemes.proofs.Results.{along}
use Rattle.fx_schemes.proofs.rows.reduce.Goals as goal

pub returns : goal.returns
unfolding IsLine
returns c =
    by_scheme _ c.rows_to_rows.result _
    (along shown c.rows_to_rows.result _ _
    (same_piped (codes "tables") [] [] (free 2) _ _ _ _ _ _ refl
    (c.in_ok-required.ensures
    ∙ same_more _ _ _ _ _
    (c.in_ok-identity.ensures ∙ ap (λ t. labelled (codes "identity") t ∷ []) c.in_ok-record_over.ensures)
    c.in_ok-step.ensures)
    refl)
    c.rows_to_rows.ensures)
    (built _ _ (lit≤ tt) refl (lit≤ tt) tt (λ L. (λ h. (h.0.row_of 0, h.0.row_of 1, h.2), λ d. (rows_solution d.0 d.1 d.1, tt, d.2))))
