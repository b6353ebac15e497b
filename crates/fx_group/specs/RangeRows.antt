-- A range as rows that are set and regrouped.
use Rattle.std.specs.Prelude.{ℤ, List, [], ◌∷◌, map, codes}
use Rattle.std.specs.FinMap.{insert}
use Rattle.std.specs.List.{filter, flat_map}
use Rattle.fx_value.specs.declared.scalar.Scalar.TheVariants.{Time}
use Rattle.fx_data.specs.Columns.{key_with}
use Rattle.fx_data.specs.Regrouped.{regrouped_with}
use Rattle.fx_data.specs.declared.key.Key.{Key}
use Rattle.fx_data.specs.declared.keyed_row.KeyedRow.{KeyedRow}
use Rattle.fx_data.specs.declared.table.Table.{Table}
use Rattle.fx_group.specs.Answer.{Row}
use Rattle.fx_group.specs.Bounds.{lies_between}

-- the key with the two labels added
abbrev pub bounded_key : ℤ → ℤ → Key → Key
bounded_key start stop key = key_with (key_with key (codes "_start") (Time start)) (codes "_stop") (Time stop)

-- the row with both columns set, under that key
abbrev pub set_row : ℤ → ℤ → Key → Row → KeyedRow
set_row start stop key row = record { key = bounded_key start stop key; row = insert (insert row (codes "_start") (Time start)) (codes "_stop") (Time stop) }

abbrev pub set_rows : ℤ → ℤ → Table → List KeyedRow
set_rows start stop t = map (set_row start stop t.key) (filter (lies_between start stop) t.rows)

-- the key of a table that had no rows
abbrev pub bare_key : ℤ → ℤ → Key → List Row → List Key
bare_key start stop key [] = bounded_key start stop key ∷ []
bare_key start stop key (row ∷ rows) = []

abbrev pub range_regrouped : ℤ → ℤ → List Table → List Table
range_regrouped start stop tables =
    regrouped_with (flat_map (set_rows start stop) tables) (flat_map (λ t. bare_key start stop t.key t.rows) tables)
