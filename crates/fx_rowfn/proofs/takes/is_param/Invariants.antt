use Rattle.std.proofs.Common.{◌≡◌, drop, map}
use Rattle.fx_ast.specs.Shape.{param, params_of}
use Rattle.fx_meaning.specs.Meaning.{is_param}
use Rattle.fx_rowfn.proofs.takes.is_param.Given as goal

abbrev pub invariant-loop-first : goal.invariant-loop-first
invariant-loop-first l = is_param l.label (params_of (map param l.params)) ≡ is_param l.label (params_of (map param (drop l.first-index l.params)))
