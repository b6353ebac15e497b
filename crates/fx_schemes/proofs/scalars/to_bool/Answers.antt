use Rattle.std.proofs.Common.{refl, inl, inr, lit≤}
use Rattle.fx_types.specs.Ground.{g_absent}
use Rattle.fx_schemes.specs.Builtins.{IsLine}
use Rattle.fx_schemes.proofs.SchemeLaws.{by_scheme, built, solution}
use Rattle.fx_schemes.proofs.scalars.to_bool.Goals as goal

pub returns : goal.returns
unfolding IsLine
returns c =
    by_scheme _ c.scalar.result _ c.scalar.ensures
    (built _ _ (lit≤ tt) refl (lit≤ tt) (inr (inl refl), tt) (λ L. (λ h. (h.0.type_of 0, h.1.0, h.2), λ d. (solution d.0 (λ l. g_absent), (d.1, tt), d.2))))
