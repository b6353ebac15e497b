use Rattle.fx_plan.proofs.StreamLimits.{stream_limited, yield_limited}
use Rattle.fx_plan.proofs.laws.streams_are_limited.Goals as goal

pub returns : goal.returns
returns c = record {
  tables = λ test stored call. stream_limited test stored call;
  shown = λ test stored call. yield_limited test stored call;
}
