-- Rows that are changed one by one, and regrouped.
use Rattle.std.specs.Prelude.{Bool, true, false, List, [], ◌∷◌, map}
use Rattle.std.specs.List.{filter, flat_map}
use Rattle.fx_data.specs.declared.key.Key.{Key}
use Rattle.fx_data.specs.declared.keyed_row.KeyedRow.{KeyedRow}
use Rattle.fx_data.specs.declared.table.Table.{Table}
use Rattle.fx_data.specs.Regrouped.{regrouped, regrouped_with}
use Rattle.fx_group.specs.Answer.{Row}

-- each row after its change, under the key of its table after that one's
abbrev pub rows_after : (Key → Key) → (Row → Row) → Table → List KeyedRow
rows_after key row t = map (λ r. record { key = key t.key; row = row r }) t.rows

-- the rows after a change, regrouped; tables without rows are dropped
abbrev pub all_changed : (Row → Row) → List Table → List Table
all_changed row tables = regrouped (flat_map (rows_after (λ key. key) row) tables)

abbrev pub is_bare : Table → Bool
is_bare t = has_none t.rows
  where
    has_none : List Row → Bool
    has_none [] = true
    has_none (row ∷ rows) = false

-- the same where keys change too, and tables without rows stay with what becomes of their keys
abbrev pub all_moved : (Key → Key) → (Row → Row) → List Table → List Table
all_moved key row tables = regrouped_with (flat_map (rows_after key row) tables) (map (λ t. key t.key) (filter is_bare tables))
