use Rattle.std.proofs.Common.{◌≡◌, length}
use Rattle.fx_base.specs.Patterns.{holds}
use Rattle.fx_base.proofs.memory_patterns.holds.Given as goal

abbrev pub invariant-loop-rest : goal.invariant-loop-rest
invariant-loop-rest l = holds l.pattern l.rest ≡ holds l.pattern l.text

abbrev pub decreases-loop-rest : goal.decreases-loop-rest
decreases-loop-rest l = length l.rest
