use Rattle.fx_series.proofs.ByTime.{value-by_time}
use Rattle.fx_series.proofs.laws.last_point_stands.Goals as goal

pub returns : goal.returns
returns c = λ points time. value-by_time time points
