use Rattle.std.proofs.Common.{◌≡◌, length}
use Rattle.fx_infer.specs.Functions.{one_pipe}
use Rattle.fx_infer.proofs.functions.one_pipe.Given as goal

abbrev pub invariant-loop-rest : goal.invariant-loop-rest
invariant-loop-rest l = one_pipe l.initial.rest ≡ one_pipe l.rest

abbrev pub decreases-loop-rest : goal.decreases-loop-rest
decreases-loop-rest l = length l.rest
