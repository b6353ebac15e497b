use Rattle.std.proofs.Common.{◌≡◌, drop}
use Rattle.fx_infer.specs.Functions.{any_pipe}
use Rattle.fx_infer.proofs.functions.any_pipe.Given as goal

abbrev pub invariant-loop-param : goal.invariant-loop-param
invariant-loop-param l = any_pipe l.params ≡ any_pipe (drop l.param-index l.params)
