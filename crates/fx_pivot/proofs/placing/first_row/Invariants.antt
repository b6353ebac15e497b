use Rattle.std.proofs.Common.{◌≡◌, drop}
use Rattle.std.specs.FinMap as fin
use Rattle.fx_pivot.specs.Cells.{with_values}
use Rattle.fx_pivot.proofs.placing.first_row.Given as goal

abbrev pub invariant-loop-i : goal.invariant-loop-i
invariant-loop-i l = with_values (drop l.i l.labels) (drop l.i l.values) l.row ≡ with_values l.labels l.values fin.empty
