use Rattle.fx_schemes.proofs.WindowLaws.{window_law}
use Rattle.fx_schemes.proofs.SchemeLaws.{by_scheme}
use Rattle.fx_schemes.proofs.rows.window.Goals as goal

pub returns : goal.returns
returns c = by_scheme _ c.over.result _ c.over.ensures window_law
