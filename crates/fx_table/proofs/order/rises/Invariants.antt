use Rattle.std.proofs.Common.{◌≡◌, length}
use Rattle.fx_table.specs.CaseTable.{rises}
use Rattle.fx_table.proofs.order.rises.Given as goal

abbrev pub invariant-loop-rest : goal.invariant-loop-rest
invariant-loop-rest g l = rises g.K.Ord.cmp l.rest ≡ rises g.K.Ord.cmp l.rows

abbrev pub decreases-loop-rest : goal.decreases-loop-rest
decreases-loop-rest g l = length l.rest
