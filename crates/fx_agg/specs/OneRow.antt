-- One row for a table, and the key that it comes from.
use Rattle.std.specs.Prelude.{ℕ, Bool, not, ◌&&◌, ◌||◌, List, [], ◌∷◌, ◌++◌, map, codes}
use Rattle.std.specs.FinMap as fin
use Rattle.std.specs.List.{filter}
use Rattle.fx_base.specs.Text.{same_text}
use Rattle.fx_value.specs.Change.{all_changed}
use Rattle.fx_value.specs.declared.change.Change.{Change}
use Rattle.fx_value.specs.declared.change.Change.TheVariants.{Set}
use Rattle.fx_value.specs.declared.scalar.Scalar.{Scalar}
use Rattle.fx_data.specs.declared.key.Key.{Key}
use Rattle.fx_data.specs.declared.key.KeyEntry.{KeyEntry}
use Rattle.fx_data.specs.declared.keyed_row.KeyedRow.{KeyedRow}
use Rattle.fx_group.specs.Answer.{Row}

abbrev pub is_time : KeyEntry → Bool
is_time e = same_text e.label (codes "_time")

-- the entry is a column that an aggregate row has
abbrev pub is_shown : KeyEntry → Bool
is_shown e = not e.pinned && not (is_time e)

abbrev pub set_entry : KeyEntry → Change
set_entry e = Set e.label e.value

abbrev pub key_changes : Key → List Change
key_changes key = map set_entry (filter is_shown key.entries)

-- the unpinned entries of the key but `_time`, and the named column
abbrev pub aggregate_row : Key → List ℕ → Scalar → Row
aggregate_row key column value = all_changed (key_changes key ++ Set column value ∷ []) fin.empty

-- the key with its label `_time` pinned
abbrev pub pinned_time : KeyEntry → KeyEntry
pinned_time e = record e { pinned = e.pinned || is_time e }

abbrev pub time_pinned : Key → Key
time_pinned key = record { entries = map pinned_time key.entries }

abbrev pub valued : Key → List ℕ → Scalar → KeyedRow
valued key column value = record { key = time_pinned key; row = aggregate_row key column value }

abbrev pub keyed : Key → Row → KeyedRow
keyed key row = record { key = key; row = row }
