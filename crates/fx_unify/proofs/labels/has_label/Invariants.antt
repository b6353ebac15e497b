use Rattle.std.proofs.Common.{◌≡◌, drop}
use Rattle.fx_types.specs.Ground.{listed}
use Rattle.fx_unify.specs.Sums.{names}
use Rattle.fx_unify.proofs.labels.has_label.Given as goal

abbrev pub invariant-loop-entry : goal.invariant-loop-entry
invariant-loop-entry l = listed l.label (names l.entries) ≡ listed l.label (names (drop l.entry-index l.entries))
