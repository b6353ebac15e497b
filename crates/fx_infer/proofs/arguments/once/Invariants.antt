use Rattle.std.proofs.Common.{◌≡◌, length}
use Rattle.fx_schemes.specs.Builtins.{differ}
use Rattle.fx_infer.specs.Callees.{arg_names}
use Rattle.fx_infer.proofs.arguments.once.Given as goal

abbrev pub invariant-loop-rest : goal.invariant-loop-rest
invariant-loop-rest l = differ (arg_names l.initial.rest) ≡ differ (arg_names l.rest)

abbrev pub decreases-loop-rest : goal.decreases-loop-rest
decreases-loop-rest l = length l.rest
