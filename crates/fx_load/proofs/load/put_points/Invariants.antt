use Rattle.std.proofs.Common.{length}
use Rattle.fx_series.specs.Store.{StandsFor}
use Rattle.fx_load.proofs.LoadLemmas.{IsPutting}
use Rattle.fx_load.proofs.load.put_points.Given as goal

abbrev pub invariant-loop-point : goal.invariant-loop-point
invariant-loop-point l = IsPutting (StandsFor l.fn.store) l.bucket l.fn.points.items l.points.items l.store

abbrev pub decreases-loop-point : goal.decreases-loop-point
decreases-loop-point l = length l.points.items
