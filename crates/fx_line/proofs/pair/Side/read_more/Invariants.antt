use Rattle.std.proofs.Common.{length}
use Rattle.fx_line.proofs.Pairs.{HasRead}
use Rattle.fx_line.proofs.pair.Side.read_more.Given as goal

abbrev pub invariant-loop-after : goal.invariant-loop-after
invariant-loop-after l = HasRead l.self l.bytes l.fn.pairs.items l.pairs.items l.rest

abbrev pub decreases-loop-after : goal.decreases-loop-after
decreases-loop-after l = length l.rest
