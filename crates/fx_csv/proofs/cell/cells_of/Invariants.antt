use Rattle.std.proofs.Common.{◌≡◌, take, map}
use Rattle.fx_csv.specs.Rows.{cell_of}
use Rattle.fx_csv.proofs.cell.cells_of.Given as goal

abbrev pub invariant-loop-column : goal.invariant-loop-column
invariant-loop-column l = l.cells.items ≡ map (λ c. cell_of l.entries c.label) (take l.column-index l.columns)
