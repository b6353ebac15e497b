use Rattle.std.proofs.Common.{◌≡◌, take}
use Rattle.fx_pivot.specs.Cells.{values_of}
use Rattle.fx_pivot.proofs.cell.values_of.Given as goal

abbrev pub invariant-loop-label : goal.invariant-loop-label
invariant-loop-label l = l.values.items ≡ values_of (take l.label-index l.labels) l.row
