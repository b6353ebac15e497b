-- Rows in the order of some columns.
use Rattle.std.specs.Prelude.{Bool, List, [], ◌∷◌, map, Option, None, Some, if◌then◌else◌}
use Rattle.std.specs.declared.cmp.Ordering.{Ordering}
use Rattle.std.specs.declared.cmp.Ordering.TheVariants.{Equal}
use Rattle.std.specs.FinMap.{get}
use Rattle.std.specs.Ordering.{is_gt, ordering_reverse, ordering_then}
use Rattle.fx_value.specs.Scalar.{scalar_cmp}
use Rattle.fx_value.specs.declared.scalar.Scalar.{Scalar}
use Rattle.fx_value.specs.declared.scalar.Scalar.TheVariants.{Null}
use Rattle.fx_data.specs.declared.table.Table.{Table}
use Rattle.fx_group.specs.Answer.{Row}
use Rattle.fx_shape.specs.Columns.{Label}

-- a column that isn't there counts as null
abbrev pub or_null : Option Scalar → Scalar
or_null (Some value) = value
or_null None = Null

-- by the columns in order
abbrev pub rows_cmp : List Label → Row → Row → Ordering
rows_cmp [] a b = Equal
rows_cmp (column ∷ columns) a b = ordering_then (scalar_cmp (or_null (get a column)) (or_null (get b column))) (rows_cmp columns a b)

abbrev pub directed_cmp : Bool → List Label → Row → Row → Ordering
directed_cmp desc columns a b = if desc then ordering_reverse (rows_cmp columns a b) else rows_cmp columns a b

-- the row in its place among rows in order, before those that are equal to it
abbrev pub placed : (Row → Row → Ordering) → Row → List Row → List Row
placed cmp row [] = row ∷ []
placed cmp row (next ∷ rows) = if is_gt (cmp row next) then next ∷ placed cmp row rows else row ∷ next ∷ rows

-- rows that are equal stay in their order
abbrev pub in_order : (Row → Row → Ordering) → List Row → List Row
in_order cmp [] = []
in_order cmp (row ∷ rows) = placed cmp row (in_order cmp rows)

abbrev pub table_sorted : List Label → Bool → Table → Table
table_sorted columns desc t = record { key = t.key; rows = in_order (directed_cmp desc columns) t.rows }

-- `sort`: the rows of each table
unfoldable pub rows_sorted : List Label → Bool → List Table → List Table
rows_sorted columns desc tables = map (table_sorted columns desc) tables
