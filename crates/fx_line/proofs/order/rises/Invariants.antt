use Rattle.std.proofs.Common.{◌≡◌, length}
use Rattle.fx_line.specs.Order.{rises}
use Rattle.fx_line.proofs.order.rises.Given as goal

abbrev pub invariant-loop-rest : goal.invariant-loop-rest
invariant-loop-rest l = rises l.rest ≡ rises l.tags

abbrev pub decreases-loop-rest : goal.decreases-loop-rest
decreases-loop-rest l = length l.rest
