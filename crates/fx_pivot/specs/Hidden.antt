-- The types that the code keeps to itself, for laws of other crates.
use Rattle.fx_pivot.specs.declared.cell.Cell as cells

abbrev pub Cell : Type 0
Cell = cells.Cell
