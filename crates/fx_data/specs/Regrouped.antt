-- Rows regrouped under the keys of their own values.
use Rattle.std.specs.Prelude.{false, List, [], ◌∷◌, ◌++◌, map, filter_map, Option, None, Some, if◌then◌else◌}
use Rattle.std.specs.Option.{unwrap_or}
use Rattle.std.specs.FinMap.{FinMap, get, insert}
use Rattle.fx_base.specs.Text.{text_cmp}
use Rattle.fx_value.specs.declared.scalar.Scalar.{Scalar}
use Rattle.fx_data.specs.declared.key.Key.{Key}
use Rattle.fx_data.specs.declared.key.KeyEntry.{KeyEntry}
use Rattle.fx_data.specs.declared.keyed_row.KeyedRow.{KeyedRow}
use Rattle.fx_data.specs.declared.table.Table.{Table}
use Rattle.fx_data.specs.Gathered.{gathered}
use Rattle.fx_data.specs.Key.{key_cmp}

-- what a row's new key has in place of an old entry: the row's value at its label, unpinned; where the row has no such
-- column, the old entry if it is pinned, and else nothing
abbrev pub entry_after : KeyEntry → Option Scalar → Option KeyEntry
entry_after e (Some value) = Some (record { label = e.label; value = value; pinned = false })
entry_after e None = if e.pinned then Some e else None

abbrev pub after : FinMap text_cmp Scalar → KeyEntry → Option KeyEntry
after row e = entry_after e (get row e.label)

-- the new key of a row with this old key
unfoldable pub new_key : Key → FinMap text_cmp Scalar → Key
new_key key row = record { entries = filter_map (after row) key.entries }

-- a row as a table of its own, under its new key
abbrev pub alone : KeyedRow → Table
alone r = record { key = new_key r.key r.row; rows = r.row ∷ [] }

-- a key as a table without rows
abbrev pub bare : Key → Table
bare key = record { key = key; rows = [] }

-- rows with equal new keys form a table, in their order; tables stand in key order
abbrev pub regrouped : List KeyedRow → List Table
regrouped rows = gathered (map alone rows)

-- the same, with a table without rows for each key that no row has
abbrev pub regrouped_with : List KeyedRow → List Key → List Table
regrouped_with rows empties = gathered (map alone rows ++ map bare empties)

-- for each key the rows that stand under it, with those of one more table behind them
unfoldable pub joined : FinMap key_cmp (List (FinMap text_cmp Scalar)) → Table → FinMap key_cmp (List (FinMap text_cmp Scalar))
joined groups t = insert groups t.key (unwrap_or (get groups t.key) [] ++ t.rows)

-- table after table
abbrev pub all_joined : FinMap key_cmp (List (FinMap text_cmp Scalar)) → List Table → FinMap key_cmp (List (FinMap text_cmp Scalar))
all_joined groups [] = groups
all_joined groups (t ∷ ts) = all_joined (joined groups t) ts
