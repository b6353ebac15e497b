use Rattle.std.proofs.Common.{◌≡◌, length}
use Rattle.fx_schemes.specs.Builtins.{differ}
use Rattle.fx_infer.specs.Functions.{params_on}
use Rattle.fx_infer.proofs.functions.params_differ.Given as goal

abbrev pub invariant-loop-rest : goal.invariant-loop-rest
invariant-loop-rest l = differ (params_on l.initial.rest) ≡ differ (params_on l.rest)

abbrev pub decreases-loop-rest : goal.decreases-loop-rest
decreases-loop-rest l = length l.rest
