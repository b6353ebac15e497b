use Rattle.fx_schemes.proofs.Rolled.{rec_rolled}
use Rattle.fx_infer.proofs.terms.record_of.Goals as goal

pub returns : goal.returns
returns c = rec_rolled _ _ _ c.in_ok-new.ensures
