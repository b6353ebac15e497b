use Rattle.std.proofs.Common.{◌≡◌, ◌++◌}
use Rattle.fx_value.specs.Works.{into}
use Rattle.fx_pivot.specs.Cells.{cells_of}
use Rattle.fx_pivot.proofs.cell.cells_of.Given as goal

abbrev pub invariant-loop-row : goal.invariant-loop-row
invariant-loop-row l =
    cells_of l.place l.rows l.columns l.value l.key l.fn.all ≡ into ◌++◌ l.cells.items (cells_of l.place l.rows l.columns l.value l.key l.row-iterator.rest.items)
