use Rattle.std.proofs.Common.{refl, ap, ◌∙◌, [], ◌∷◌, lit≤}
use Rattle.std.specs.Prelude.{codes}
use Rattle.fx_types.specs.Ground.{g_int}
use Rattle.fx_types.proofs.ShapeLaws.{term_bool}
use Rattle.fx_schemes.specs.Plan.{labelled, row_function}
use Rattle.fx_schemes.proofs.SchemeLaws.{by_scheme, built, solution, same_piped, free}
use Rattle.fx_schemes.specs.Scheme.{shown}
use Rattle.fx_schemes.proofs.Results.{along}
use Rattle.fx_schemes.proofs.rows.filter_dropping.Goals as goal

pub returns : goal.returns
returns c =
    by_scheme _ c.rows_to_rows.result _
    (along shown c.rows_to_rows.result _ _
    (same_piped (codes "tables") (codes "onEmpty" ∷ []) [] (free 1) _ _ _ _ _ _ refl
    (c.in_ok-required.ensures ∙ ap (λ t. labelled (codes "fn") t ∷ []) (c.in_ok-test.ensures ∙ ap (row_function 0) term_bool))
    refl)
    c.rows_to_rows.ensures)
    (built _ _ (lit≤ tt) refl (lit≤ tt) tt (λ L. (λ h. (h.0.row_of 0, h.2), λ d. (solution g_int d.0, tt, d.1))))
