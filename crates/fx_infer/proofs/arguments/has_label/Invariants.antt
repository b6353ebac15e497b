use Rattle.std.proofs.Common.{◌≡◌, drop}
use Rattle.fx_types.specs.Ground.{listed}
use Rattle.fx_infer.specs.Callees.{arg_names}
use Rattle.fx_infer.proofs.arguments.has_label.Given as goal

abbrev pub invariant-loop-arg : goal.invariant-loop-arg
invariant-loop-arg l = listed l.label (arg_names l.args) ≡ listed l.label (arg_names (drop l.arg-index l.args))
