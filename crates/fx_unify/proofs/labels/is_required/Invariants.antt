use Rattle.std.proofs.Common.{◌≡◌, drop}
use Rattle.fx_types.specs.Ground.{listed}
use Rattle.fx_unify.specs.Sums.{required_names}
use Rattle.fx_unify.proofs.labels.is_required.Given as goal

abbrev pub invariant-loop-entry : goal.invariant-loop-entry
invariant-loop-entry l = listed l.label (required_names l.entries) ≡ listed l.label (required_names (drop l.entry-index l.entries))
