use Rattle.fx_series.proofs.InBlock.{IsFrom}
use Rattle.fx_series.proofs.block.place_of.Given as goal

abbrev pub invariant-loop-place : goal.invariant-loop-place
invariant-loop-place l = IsFrom l.points l.time l.place

abbrev pub decreases-loop-place : goal.decreases-loop-place
decreases-loop-place l = l.place
