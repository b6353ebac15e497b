use Rattle.std.proofs.Common.{refl, ap, ◌∙◌, [], ◌∷◌, lit≤}
use Rattle.std.specs.Prelude.{codes}
use Rattle.fx_types.proofs.ShapeLaws.{term_bool}
use Rattle.fx_schemes.specs.Plan.{labelled, sides_function}
use Rattle.fx_schemes.specs.Scheme.{shown}
use Rattle.fx_schemes.proofs.Results.{along}
use Rattle.fx_schemes.proofs.SchemeLaws.{by_scheme, built, rows_solution, same_more, same_piped, free}
use Rattle.fx_schemes.proofs.joins.join.Goals as goal

pub returns : goal.returns
returns c =
    by_scheme _ c.joined.result _
    (along shown c.joined.result _ _
    (same_piped (codes "left") [] [] (free 3) _ _ _ _ _ _ refl
    (same_more _ _ _ _ _
    (c.in_ok-matched.ensures
    ∙ same_more _ _ _ _ _
    (c.in_ok-right.ensures ∙ ap (λ t. labelled (codes "right") t ∷ []) c.in_ok-stream_over.ensures)
    (c.in_ok-on.ensures ∙ ap (sides_function []) term_bool))
    refl)
    refl)
    c.joined.ensures)
    (built _ _ (lit≤ tt) refl (lit≤ tt) tt (λ L. (λ h. (h.0.row_of 0, h.0.row_of 1, h.0.row_of 2, h.2), λ d. (rows_solution d.0 d.1 d.2, tt, d.3))))
