use Rattle.std.proofs.Common.{◌≡◌, drop}
use Rattle.fx_types.specs.Ground.{listed}
use Rattle.fx_infer.specs.Functions.{params_on}
use Rattle.fx_infer.proofs.functions.is_param.Given as goal

abbrev pub invariant-loop-param : goal.invariant-loop-param
invariant-loop-param l = listed l.label (params_on l.params) ≡ listed l.label (params_on (drop l.param-index l.params))
