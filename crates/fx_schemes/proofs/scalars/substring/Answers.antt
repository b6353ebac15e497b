use Rattle.std.proofs.Common.{refl, lit≤}
use Rattle.fx_schemes.specs.Builtins.{IsLine}
use Rattle.fx_schemes.proofs.SchemeLaws.{by_scheme, fixed}
use Rattle.fx_schemes.proofs.scalars.substring.Goals as goal

pub returns : goal.returns
unfolding IsLine
returns c = by_scheme _ c.scalar.result _ c.scalar.ensures (fixed _ _ (lit≤ tt) refl (lit≤ tt) (λ s. tt) (λ s. refl))
