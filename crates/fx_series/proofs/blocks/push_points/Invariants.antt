use Rattle.std.proofs.Common.{◌≡◌, ◌+◌, ◌++◌, take, length}
use Rattle.fx_series.specs.Read.{pairs, between}
use Rattle.fx_series.proofs.blocks.push_points.Given as goal

abbrev pub invariant-loop-point : goal.invariant-loop-point
invariant-loop-point g l = record {
  values : pairs l.out ≡ pairs l.fn.out ++ between l.first l.last (pairs (take l.point-index l.points));
  steps : l.steps ≡ l.fn.steps + l.point-index;
}
