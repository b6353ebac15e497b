use Rattle.std.proofs.Common.{◌≡◌, ◌≤◌, false, drop, length}
use Rattle.fx_types.specs.Ground.{listed}
use Rattle.fx_infer.specs.Names.{labels_among}
use Rattle.fx_infer.proofs.scope.newest.Given as goal

abbrev pub invariant-loop-left : goal.invariant-loop-left
invariant-loop-left l = (l.left ≤ length l.names) × (listed l.label (labels_among (drop l.left l.names)) ≡ false)

abbrev pub decreases-loop-left : goal.decreases-loop-left
decreases-loop-left l = l.left
