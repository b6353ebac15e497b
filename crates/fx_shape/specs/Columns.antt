-- Columns that are set.
use Rattle.std.specs.Prelude.{ℕ, Bool, true, false, List, Option, None, Some, if◌then◌else◌}
use Rattle.std.specs.FinMap.{FinMap, get, insert, remove}
use Rattle.fx_base.specs.Text.{text_cmp}
use Rattle.fx_value.specs.declared.scalar.Scalar.{Scalar}
use Rattle.fx_value.specs.declared.scalar.Scalar.TheVariants.{Null}
use Rattle.fx_data.specs.declared.table.Table.{Table}
use Rattle.fx_shape.specs.Changed.{all_changed}

abbrev pub Label : Type 0
Label = List ℕ

-- `set`: the column has the value in each row
unfoldable pub column_set : Label → Scalar → List Table → List Table
column_set label value = all_changed (λ row. insert row label value)

-- null or not there
abbrev pub is_missing : Option Scalar → Bool
is_missing None = true
is_missing (Some Null) = true
is_missing (Some value) = false

-- `fill`: the column has the value where it is null or not there
unfoldable pub column_filled : Label → Scalar → List Table → List Table
column_filled label value = all_changed (λ row. if is_missing (get row label) then insert row label value else row)

-- a label as another one is, which may be not at all
abbrev pub as_there : {A : Type 0} → Option A → Label → FinMap text_cmp A → FinMap text_cmp A
as_there None label map = remove map label
as_there (Some value) label map = insert map label value

abbrev pub doubled : {A : Type 0} → Label → Label → FinMap text_cmp A → FinMap text_cmp A
doubled label copy map = as_there (get map label) copy map

-- `duplicate`: the column `copy` is as the other
unfoldable pub column_doubled : Label → Label → List Table → List Table
column_doubled label copy = all_changed (doubled label copy)
