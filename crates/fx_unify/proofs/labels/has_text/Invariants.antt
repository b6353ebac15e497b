use Rattle.std.proofs.Common.{◌≡◌, drop}
use Rattle.fx_types.specs.Ground.{listed}
use Rattle.fx_unify.proofs.labels.has_text.Given as goal

abbrev pub invariant-loop-other : goal.invariant-loop-other
invariant-loop-other l = listed l.label l.labels ≡ listed l.label (drop l.other-index l.labels)
