use Rattle.std.proofs.Common.{refl, ap, ◌∙◌, [], ◌∷◌, lit≤}
use Rattle.std.specs.Prelude.{codes}
use Rattle.fx_types.specs.Ground.{g_int}
use Rattle.fx_types.specs.Term.{array}
use Rattle.fx_schemes.specs.Builtins.{IsLine}
use Rattle.fx_schemes.specs.Plan.{labelled}
use Rattle.fx_schemes.specs.Scheme.{shown}
use Rattle.fx_schemes.proofs.Results.{along}
use Rattle.fx_schemes.proofs.SchemeLaws.{by_scheme, built, solution, same_call, free}
use Rattle.fx_schemes.proofs.sources.array_from.Goals as goal

pub returns : goal.returns
unfolding IsLine
returns c =
    by_scheme _ c.call.result _
    (along shown c.call.result _ _
    (same_call (free 1) _ _ _ _
    (c.in_ok-required.ensures ∙ ap (λ t. labelled (codes "rows") t ∷ []) (c.in_ok-rows.ensures ∙ ap array c.in_ok-record_over.ensures))
    c.in_ok-gives.ensures)
    c.call.ensures)
    (built _ _ (lit≤ tt) refl (lit≤ tt) tt (λ L. (λ h. (h.0.row_of 0, h.2), λ d. (solution g_int d.0, tt, d.1))))
