use Rattle.fx_schemes.specs.Names.{all}
use Rattle.fx_meaning.proofs.built.numbered.Goals as goal

pub returns : goal.returns
unfolding all
returns c = c.at.ensures
