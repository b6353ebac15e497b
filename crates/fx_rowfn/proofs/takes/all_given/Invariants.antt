use Rattle.std.proofs.Common.{◌≡◌, drop, map}
use Rattle.fx_ast.specs.Shape.{param, params_of}
use Rattle.fx_meaning.specs.Meaning.{all_given}
use Rattle.fx_values.specs.Shape.{slot, slots_of}
use Rattle.fx_rowfn.proofs.takes.all_given.Given as goal

abbrev pub invariant-loop-first : goal.invariant-loop-first
invariant-loop-first l = all_given (params_of (map param l.params)) (slots_of (map slot l.args)) ≡ all_given (params_of (map param (drop l.first-index l.params))) (slots_of (map slot l.args))
