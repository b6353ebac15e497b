use Rattle.std.proofs.Common.{◌≡◌, length}
use Rattle.fx_schemes.specs.Builtins.{differ}
use Rattle.fx_schemes.specs.Given.{texts_of}
use Rattle.fx_schemes.proofs.shape.differ.Given as goal

abbrev pub invariant-loop-rest : goal.invariant-loop-rest
invariant-loop-rest l = differ (texts_of l.initial.rest) ≡ differ (texts_of l.rest)

abbrev pub decreases-loop-rest : goal.decreases-loop-rest
decreases-loop-rest l = length l.rest
