use Rattle.std.proofs.Common.{[], take}
use Rattle.fx_series.specs.Store.{StandsFor}
use Rattle.fx_top.specs.Answer.{buckets_of}
use Rattle.fx_top.proofs.run.store_of.Given as goal

abbrev pub invariant-loop-load : goal.invariant-loop-load
invariant-loop-load l = StandsFor l.store (buckets_of (take l.load-index l.loads)) []
