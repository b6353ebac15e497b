use Rattle.std.proofs.Common.{◌≡◌, drop, map}
use Rattle.fx_ast.specs.Free.{is_param, name_of}
use Rattle.fx_ast.specs.Shape.{param, params_of}
use Rattle.fx_rowfn.proofs.free.is_bound.Given as goal

abbrev pub invariant-loop-first : goal.invariant-loop-first
invariant-loop-first l = is_param (params_of (map param l.params)) (name_of l.name) ≡ is_param (params_of (map param (drop l.first-index l.params))) (name_of l.name)
