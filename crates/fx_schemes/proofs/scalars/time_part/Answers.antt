use Rattle.std.proofs.Common.{refl, lit≤}
use Rattle.fx_schemes.proofs.SchemeLaws.{by_scheme, fixed}
use Rattle.fx_schemes.proofs.scalars.time_part.Goals as goal

pub returns : goal.returns
returns c = by_scheme _ c.scalar.result _ c.scalar.ensures (fixed _ _ (lit≤ tt) refl (lit≤ tt) (λ s. tt) (λ s. refl))
