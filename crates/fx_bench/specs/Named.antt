-- Rows that a pivot takes.
use Rattle.std.specs.Prelude.{ℕ, Bool, true, false, List, Option, None, Some}
use Rattle.std.specs.FinMap.{FinMap, get}
use Rattle.std.specs.List.{list_all}
use Rattle.fx_base.specs.Text.{text_cmp}
use Rattle.fx_data.specs.declared.table.Table.{Table}
use Rattle.fx_value.specs.declared.scalar.Scalar.{Scalar}
use Rattle.fx_value.specs.declared.scalar.Scalar.TheVariants.{Null, Text}

-- whether a value is a text, null, or not there
abbrev pub may_be_name : Option Scalar → Bool
may_be_name None = true
may_be_name (Some Null) = true
may_be_name (Some (Text t)) = true
may_be_name value = false

abbrev pub is_named : List ℕ → FinMap text_cmp Scalar → Bool
is_named label row = may_be_name (get row label)

abbrev pub has_named_rows : List ℕ → Table → Bool
has_named_rows label t = list_all (is_named label) t.rows
