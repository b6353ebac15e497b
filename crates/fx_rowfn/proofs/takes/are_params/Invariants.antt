use Rattle.std.proofs.Common.{◌≡◌, drop, map}
use Rattle.fx_ast.specs.Shape.{param, params_of}
use Rattle.fx_meaning.specs.Meaning.{are_params}
use Rattle.fx_values.specs.Shape.{slot, slots_of}
use Rattle.fx_rowfn.proofs.takes.are_params.Given as goal

abbrev pub invariant-loop-first : goal.invariant-loop-first
invariant-loop-first l = are_params (slots_of (map slot l.args)) (params_of (map param l.params)) ≡ are_params (slots_of (map slot (drop l.first-index l.args))) (params_of (map param l.params))
