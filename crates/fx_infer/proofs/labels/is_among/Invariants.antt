use Rattle.std.proofs.Common.{◌≡◌, drop}
use Rattle.fx_types.specs.Ground.{listed}
use Rattle.fx_infer.specs.Records.{labels_on}
use Rattle.fx_infer.proofs.labels.is_among.Given as goal

abbrev pub invariant-loop-prop : goal.invariant-loop-prop
invariant-loop-prop l = listed l.label (labels_on l.props) ≡ listed l.label (labels_on (drop l.prop-index l.props))
