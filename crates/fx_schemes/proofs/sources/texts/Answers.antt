use Rattle.std.proofs.Common.{refl, lit≤}
use Rattle.fx_schemes.proofs.SchemeLaws.{by_scheme, fixed}
use Rattle.fx_schemes.proofs.sources.texts.Goals as goal

pub returns : goal.returns
returns c = by_scheme _ c.stored.result _ c.stored.ensures (fixed _ _ (lit≤ tt) refl (lit≤ tt) (λ s. tt) (λ s. refl))
