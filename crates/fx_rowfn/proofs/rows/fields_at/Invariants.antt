use Rattle.std.proofs.Common.{◌≡◌, map, take}
use Rattle.std.specs.List.{flat_map}
use Rattle.fx_rowfn.specs.Rows.{field_at}
use Rattle.fx_values.specs.Shape.{slot}
use Rattle.fx_rowfn.proofs.rows.fields_at.Given as goal

abbrev pub invariant-loop-label : goal.invariant-loop-label
invariant-loop-label l = map slot l.made ≡ flat_map (field_at l.row) (take l.label-index l.labels)
