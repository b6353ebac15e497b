use Rattle.fx_schemes.proofs.ChangeLaws.{part_law}
use Rattle.fx_schemes.proofs.SchemeLaws.{by_scheme}
use Rattle.fx_schemes.proofs.columns.part.Goals as goal

pub returns : goal.returns
returns c = by_scheme _ c.over.result _ c.over.ensures part_law
