use Rattle.std.proofs.Common.{◌≡◌, length}
use Rattle.fx_line.specs.Line.{without_last_spaces}
use Rattle.fx_line.proofs.trim.without_last_spaces.Given as goal

abbrev pub invariant-loop-before : goal.invariant-loop-before
invariant-loop-before l = without_last_spaces l.rest ≡ without_last_spaces l.bytes

abbrev pub decreases-loop-before : goal.decreases-loop-before
decreases-loop-before l = length l.rest
