-- What the code keeps of the rows that it prints.
use Rattle.std.specs.Prelude.{ℕ, List, [], ◌∷◌, map, Option, None, Some, decimal, if◌then◌else◌, unwrap_or}
use Rattle.std.specs.FinMap as map
use Rattle.fx_base.specs.Text.{text_cmp, same_text}
use Rattle.fx_value.specs.declared.scalar.Scalar.{Scalar}
use Rattle.fx_value.specs.declared.scalar.Scalar.TheVariants as scalar
use Rattle.fx_data.specs.declared.key.KeyEntry.{KeyEntry}
use Rattle.fx_csv.specs.declared.cell.Cell.{Cell}
use Rattle.fx_csv.specs.declared.cell.Cell.TheVariants.{Same, Own}
use Rattle.fx_csv.specs.Cells.{scalar_text}

-- the value of a key label, pinned or not
abbrev pub key_value : List KeyEntry → List ℕ → Option Scalar
key_value [] label = None
key_value (e ∷ rest) label = if same_text e.label label then Some e.value else key_value rest label

abbrev pub cell_for : Option Scalar → List ℕ → Cell
cell_for None label = Own label
cell_for (Some value) label = Same (scalar_text value)

abbrev pub cell_of : List KeyEntry → List ℕ → Cell
cell_of entries label = cell_for (key_value entries label) label

-- what a cell shows in a row
abbrev pub cell_text : map.FinMap text_cmp Scalar → Cell → List ℕ
cell_text row (Same text) = text
cell_text row (Own label) = scalar_text (unwrap_or (map.get row label) scalar.Null)

-- the record of a row
abbrev pub record_of : ℕ → List Cell → map.FinMap text_cmp Scalar → List (List ℕ)
record_of number cells row = [] ∷ [] ∷ decimal number ∷ map (cell_text row) cells
