-- Rows of which a sum is made.
use Rattle.std.specs.Prelude.{ℕ, Bool, true, false, List, Option, None, Some}
use Rattle.std.specs.FinMap.{FinMap, get}
use Rattle.std.specs.List.{list_all}
use Rattle.fx_base.specs.Text.{text_cmp}
use Rattle.fx_data.specs.declared.table.Table.{Table}
use Rattle.fx_value.specs.declared.scalar.Scalar.{Scalar}
use Rattle.fx_value.specs.declared.scalar.Scalar.TheVariants.{Null, Int}

-- whether a value is an integer, null, or not there
abbrev pub may_be_int : Option Scalar → Bool
may_be_int None = true
may_be_int (Some Null) = true
may_be_int (Some (Int n)) = true
may_be_int value = false

abbrev pub is_counted : List ℕ → FinMap text_cmp Scalar → Bool
is_counted label row = may_be_int (get row label)

abbrev pub has_counted_rows : List ℕ → Table → Bool
has_counted_rows label t = list_all (is_counted label) t.rows
