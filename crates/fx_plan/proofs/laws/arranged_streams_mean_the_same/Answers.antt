use Rattle.fx_plan.proofs.ArrangedLaws.{same_meaning}
use Rattle.fx_plan.proofs.laws.arranged_streams_mean_the_same.Goals as goal

pub returns : goal.returns
returns c = same_meaning
