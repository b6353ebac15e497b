-- The values of a column, each once.
use Rattle.std.specs.Prelude.{ℕ, not, List, [], ◌∷◌, map, Option, None, Some, codes}
use Rattle.std.specs.FinMap.{get}
use Rattle.std.specs.List.{filter, flat_map}
use Rattle.std.specs.Ordering.{eq_by_cmp}
use Rattle.fx_value.specs.declared.scalar.Scalar.{Scalar}
use Rattle.fx_value.specs.declared.scalar.Scalar.TheVariants.{Null}
use Rattle.fx_value.specs.Scalar.{scalar_cmp}
use Rattle.fx_data.specs.declared.keyed_row.KeyedRow.{KeyedRow}
use Rattle.fx_data.specs.declared.table.Table.{Table}
use Rattle.fx_data.specs.Regrouped.{regrouped}
use Rattle.fx_agg.specs.OneRow.{valued}
use Rattle.fx_group.specs.Answer.{Row}

-- a missing column counts as null
abbrev pub or_null : Option Scalar → Scalar
or_null (Some value) = value
or_null None = Null

abbrev pub values : List ℕ → List Row → List Scalar
values column rows = map (λ row. or_null (get row column)) rows

-- each differing value, in the order in which they first appear
abbrev pub differing : List Scalar → List Scalar
differing [] = []
differing (v ∷ vs) = v ∷ filter (λ w. not (eq_by_cmp scalar_cmp v w)) (differing vs)

-- an aggregate row for each of them, with `_value` in place of the column
abbrev pub distinct_rows : List ℕ → Table → List KeyedRow
distinct_rows column t = map (valued t.key (codes "_value")) (differing (values column t.rows))

-- `distinct`: the rows of all tables, regrouped
unfoldable pub distinguished : List ℕ → List Table → List Table
distinguished column tables = regrouped (flat_map (distinct_rows column) tables)
