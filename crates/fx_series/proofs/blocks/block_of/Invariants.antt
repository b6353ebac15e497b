use Rattle.std.proofs.Common.{◌+◌, ◌-◌, ◌<◌, ◌≤◌, length, take, drop}
use Rattle.fx_series.specs.Blocks.{entries_in, Before, After}
use Rattle.fx_series.proofs.blocks.block_of.Given as goal

abbrev pub invariant-loop-low : goal.invariant-loop-low
invariant-loop-low l = record {
  order : l.low ≤ l.high;
  within : l.high < length l.blocks;
  below : Before l.time (entries_in (take l.low l.blocks));
  above : After l.time (entries_in (drop (l.high + 1) l.blocks));
}

abbrev pub decreases-loop-low : goal.decreases-loop-low
decreases-loop-low l = l.high - l.low
