use Rattle.fx_series.proofs.Unknown.{unknown-empty}
use Rattle.fx_series.proofs.laws.unknown_buckets_are_empty.Goals as goal

pub returns : goal.returns
returns c = λ kept buckets stored stands name kind unknown. unknown-empty kept buckets stored stands name kind unknown
