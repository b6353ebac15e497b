use Rattle.fx_schemes.proofs.WindowLaws.{summed_law}
use Rattle.fx_schemes.proofs.SchemeLaws.{by_scheme}
use Rattle.fx_schemes.proofs.aggregates.summed.Goals as goal

pub returns : goal.returns
returns c = by_scheme _ c.over.result _ c.over.ensures summed_law
