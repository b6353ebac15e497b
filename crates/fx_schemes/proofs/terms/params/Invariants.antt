use Rattle.std.proofs.Common.{◌≡◌, map, take}
use Rattle.fx_types.specs.Shape.{label_term}
use Rattle.fx_schemes.specs.Plan.{param_of, params_of}
use Rattle.fx_schemes.proofs.terms.params.Given as goal

abbrev pub invariant-loop-param : goal.invariant-loop-param
invariant-loop-param l = map label_term l.list ≡ map param_of (params_of (take l.param-index l.params))
