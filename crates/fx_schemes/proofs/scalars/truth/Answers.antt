use Rattle.std.proofs.Common.{refl, ap, lit≤}
use Rattle.fx_types.proofs.ShapeLaws.{term_bool}
use Rattle.fx_schemes.specs.Builtins.{IsLine}
use Rattle.fx_schemes.specs.Plan.{value_scheme}
use Rattle.fx_schemes.specs.Scheme.{shown}
use Rattle.fx_schemes.proofs.Results.{along}
use Rattle.fx_schemes.proofs.SchemeLaws.{by_scheme, fixed}
use Rattle.fx_schemes.proofs.scalars.truth.Goals as goal

pub returns : goal.returns
unfolding IsLine
returns c =
    by_scheme _ c.value.result _ (along shown c.value.result _ _ (ap value_scheme term_bool) c.value.ensures)
    (fixed _ _ (lit≤ tt) refl (lit≤ tt) (λ s. tt) (λ s. refl))
