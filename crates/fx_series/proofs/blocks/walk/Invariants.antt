use Rattle.std.proofs.Common.{◌≡◌, ◌+◌, ◌≤◌, ◌++◌, drop, length}
use Rattle.fx_series.specs.Read.{pairs, between}
use Rattle.fx_series.specs.Blocks.{entries_in, looked}
use Rattle.fx_series.proofs.blocks.walk.Given as goal

abbrev pub invariant-loop-block : goal.invariant-loop-block
invariant-loop-block g l = record {
  values : pairs l.out ++ between l.first l.last (entries_in (looked l.last (drop l.block-index l.blocks))) ≡ between l.first l.last (entries_in (looked l.last l.blocks));
  risen : l.fn.steps ≤ l.steps;
  steps : l.steps + length (entries_in (looked l.last (drop l.block-index l.blocks))) ≡ l.fn.steps + length (entries_in (looked l.last l.blocks));
}
