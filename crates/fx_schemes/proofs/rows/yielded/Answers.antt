use Rattle.std.proofs.Common.{refl, ap, [], ◌∷◌, lit≤}
use Rattle.std.specs.Prelude.{codes}
use Rattle.std.specs.Prelude.{map}
use Rattle.fx_types.specs.Ground.{g_int}
use Rattle.fx_types.specs.Shape.{label_term}
use Rattle.fx_types.proofs.ShapeLaws.{term_done}
use Rattle.fx_schemes.proofs.SchemeLaws.{by_scheme, built, solution, same_piped, free}
use Rattle.fx_schemes.specs.Builtins.{IsLine}
use Rattle.fx_schemes.specs.declared.simple.Simple.TheVariants as simple
use Rattle.fx_schemes.specs.Scheme.{shown}
use Rattle.fx_schemes.proofs.Results.{along}
use Rattle.fx_schemes.proofs.rows.yielded.Goals as goal

pub returns : goal.returns
unfolding IsLine
returns c =
    by_scheme _ c.piped.result _
    (along shown c.piped.result _ _
    (same_piped (codes "tables") [] ((codes "name", simple.Text) ∷ []) (free 1) _ _ _ _ _ _ c.in_ok-input.ensures
    (ap (map label_term) c.empty.ensures)
    term_done)
    c.piped.ensures)
    (built _ _ (lit≤ tt) refl (lit≤ tt) tt (λ L. (λ h. (h.0.row_of 0, h.2), λ d. (solution g_int d.0, tt, d.1))))
