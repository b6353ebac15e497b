use Rattle.std.proofs.Common.{◌≡◌, map, take}
use Rattle.fx_ast.specs.Shape.{prop, props_of}
use Rattle.fx_infer.specs.Parameters.{prop_names}
use Rattle.fx_infer.proofs.words.labels.Given as goal

abbrev pub invariant-loop-item : goal.invariant-loop-item
invariant-loop-item l = l.labels ≡ prop_names (props_of (map prop (take l.item-index l.props)))
