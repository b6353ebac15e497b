-- Pivots: rows as columns.
use Rattle.std.specs.Prelude.{ℕ, Bool, not, ◌&&◌, ◌||◌, List, ◌∷◌, map, if◌then◌else◌}
use Rattle.std.specs.FinMap.{entries}
use Rattle.std.specs.List.{filter, list_any}
use Rattle.fx_base.specs.declared.place.Place.{Place}
use Rattle.fx_data.specs.Gathered.{gathered}
use Rattle.fx_data.specs.Regrouped.{regrouped}
use Rattle.fx_data.specs.declared.key.Key.{Key}
use Rattle.fx_data.specs.declared.key.KeyEntry.{KeyEntry}
use Rattle.fx_data.specs.declared.keyed_row.KeyedRow.{KeyedRow}
use Rattle.fx_data.specs.declared.table.Table.{Table}
use Rattle.fx_group.specs.Answer.{Row}
use Rattle.fx_group.specs.Group.{is_listed}
use Rattle.fx_pivot.specs.Cells.{cells_of, cells_by_place, pivot_row}
use Rattle.fx_pivot.specs.declared.cell.Cell.{Cell}
use Rattle.fx_value.specs.Ends.{End, Gives, Stuck, and_then}
use Rattle.fx_value.specs.Works.{flat_each}

-- no label stands in two of the three
abbrev pub are_apart : List (List ℕ) → List (List ℕ) → List ℕ → Bool
are_apart rows columns value = not (list_any (is_listed rows) (value ∷ columns)) && not (is_listed columns value)

-- an entry that stays in the key: a pinned one, and one that is neither of the column key nor of the value
abbrev pub stays : List (List ℕ) → KeyEntry → Bool
stays taken e = e.pinned || not (is_listed taken e.label)

abbrev pub base_key : List (List ℕ) → Key → Key
base_key taken key = record { entries = filter (stays taken) key.entries }

abbrev pub based : List (List ℕ) → Table → Table
based taken t = record { key = base_key taken t.key; rows = t.rows }

-- the tables under the keys without these labels
abbrev pub collected : List (List ℕ) → List Table → List Table
collected taken tables = gathered (map (based taken) tables)

-- the key with each label pinned that isn't in the row key
abbrev pub pinned_but : List (List ℕ) → KeyEntry → KeyEntry
pinned_but rows e = record e { pinned = e.pinned || not (is_listed rows e.label) }

abbrev pub pivot_key : List (List ℕ) → Key → Key
pivot_key rows key = record { entries = map (pinned_but rows) key.entries }

abbrev pub keyed : Key → Row → KeyedRow
keyed key row = record { key = key; row = row }

-- one row for each differing list of values, in the order of these lists
abbrev pub pivot_rows : List (List ℕ) → List Cell → List Row
pivot_rows rows cells = map (pivot_row rows) (entries (cells_by_place cells))

abbrev pub pivoted_table : Place → List (List ℕ) → List (List ℕ) → List ℕ → Table → End (List KeyedRow)
pivoted_table place rows columns value t =
    and_then (cells_of place rows columns value t.key t.rows) (λ cells. Gives (map (keyed (pivot_key rows t.key)) (pivot_rows rows cells)) 0)

abbrev pub pivoted_tables : Place → List (List ℕ) → List (List ℕ) → List ℕ → List Table → End (List KeyedRow)
pivoted_tables place rows columns value tables = flat_each (pivoted_table place rows columns value) tables

-- `pivot`: tables are collected without the column key and the value, each becomes its rows, and these are regrouped
unfoldable pub pivoted : Place → List (List ℕ) → List (List ℕ) → List ℕ → List Table → End (List Table)
pivoted place rows columns value tables =
    if are_apart rows columns value
    then and_then (pivoted_tables place rows columns value (collected (value ∷ columns) tables)) (λ made. Gives (regrouped made) 0)
    else Stuck
