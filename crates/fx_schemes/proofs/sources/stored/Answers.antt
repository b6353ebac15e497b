use Rattle.fx_schemes.specs.Scheme.{shown}
use Rattle.fx_schemes.proofs.Results.{along}
use Rattle.fx_schemes.proofs.SchemeLaws.{same_call, free}
use Rattle.fx_schemes.proofs.sources.stored.Goals as goal

pub returns : goal.returns
returns c = along shown c.call.result _ _ (same_call (free 0) _ _ _ _ c.in_ok-required.ensures c.in_ok-gives.ensures) c.call.ensures
