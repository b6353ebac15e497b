use Rattle.std.proofs.Common.{◌≡◌, map, take}
use Rattle.fx_ast.specs.Shape.{param, params_of}
use Rattle.fx_meaning.specs.Rows.{due}
use Rattle.fx_rowfn.proofs.arguments.due_labels.Given as goal

abbrev pub invariant-loop-first : goal.invariant-loop-first
invariant-loop-first l = l.labels ≡ due (params_of (map param (take l.first-index l.params)))
