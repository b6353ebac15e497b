use Rattle.fx_series.proofs.ByTime.{by_time-rises}
use Rattle.fx_series.proofs.laws.times_rise.Goals as goal

pub returns : goal.returns
returns c = by_time-rises
