-- Which rows and tables fit a stream's row of types.
use Rattle.std.specs.Prelude.{Bool, true, false, List, Option, None, Some, IsTrue}
use Rattle.std.specs.FinMap.{get}
use Rattle.std.specs.List.{AllByRecursion}
use Rattle.fx_value.specs.declared.scalar.Scalar.{Scalar}
use Rattle.fx_value.specs.declared.scalar.Scalar.TheVariants as scalar
use Rattle.fx_types.specs.Term.{Label}
use Rattle.fx_types.specs.Ground.{GroundField, GroundRow, g_absent, g_is}
use Rattle.fx_data.specs.Table.{HasRisingLabels, shown}
use Rattle.fx_data.specs.declared.key.Key.{Key}
use Rattle.fx_data.specs.declared.key.KeyEntry.{KeyEntry}
use Rattle.fx_data.specs.declared.table.Table.{Table}
use Rattle.fx_meaning.specs.Rows.{Row}
use Rattle.fx_build.specs.Fit.{is_cell, column_kind}

-- what a row has at a label: nothing where the field is Absent, and else null or a value of the column's kind; a column
-- that isn't there reads as null
abbrev pub is_column_of : GroundField → Option Scalar → Bool
is_column_of g_absent None = true
is_column_of g_absent (Some a) = false
is_column_of (g_is t) None = is_cell (column_kind t) scalar.Null
is_column_of (g_is t) (Some a) = is_cell (column_kind t) a

abbrev pub RowFits : GroundRow → Row → Type 0
RowFits r row = (l : Label) → IsTrue (is_column_of (r l) (get row l))

-- what an entry of a key says of the rows of a table fits: its value, and nothing if it is pinned
abbrev pub EntryFits : GroundRow → KeyEntry → Type 0
EntryFits r e = IsTrue (is_column_of (r e.label) (shown e))

-- the labels of a key rise, and each entry fits
abbrev pub KeyFits : GroundRow → Key → Type 0
KeyFits r key = HasRisingLabels key × AllByRecursion (EntryFits r) key.entries

-- the key and each row
abbrev pub TableFits : GroundRow → Table → Type 0
TableFits r t = KeyFits r t.key × AllByRecursion (RowFits r) t.rows

abbrev pub TablesFit : GroundRow → List Table → Type 0
TablesFit r tables = AllByRecursion (TableFits r) tables
