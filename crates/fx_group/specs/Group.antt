-- Rows under the key of some of their columns.
use Rattle.std.specs.Prelude.{ℕ, Bool, not, List, [], ◌∷◌, map}
use Rattle.std.specs.FinMap.{entries}
use Rattle.std.specs.List.{filter, flat_map, list_any}
use Rattle.fx_base.specs.Text.{same_text}
use Rattle.fx_data.specs.Gathered.{gathered}
use Rattle.fx_data.specs.Shared.{column_entry}
use Rattle.fx_data.specs.declared.key.Key.{Key}
use Rattle.fx_data.specs.declared.table.Table.{Table}
use Rattle.fx_group.specs.Answer.{Row}

-- the columns of the row whose labels are picked, as a key in which nothing is pinned
abbrev pub picked_key : (List ℕ → Bool) → Row → Key
picked_key picks row = record { entries = map column_entry (filter (λ e. picks e.0) (entries row)) }

-- the row as a table of its own, under that key
abbrev pub picked_table : (List ℕ → Bool) → Row → Table
picked_table picks row = record { key = picked_key picks row; rows = row ∷ [] }

abbrev pub is_listed : List (List ℕ) → List ℕ → Bool
is_listed columns label = list_any (same_text label) columns

-- all rows, in the order of the tables, under the keys of their picked columns
unfoldable pub regrouped_by : (List ℕ → Bool) → List Table → List Table
regrouped_by picks tables = gathered (map (picked_table picks) (flat_map (λ t. t.rows) tables))

-- `group` by columns: those of a row that are listed
abbrev pub grouped_by : List (List ℕ) → List Table → List Table
grouped_by columns = regrouped_by (is_listed columns)

-- `group` by all columns but these
abbrev pub grouped_except : List (List ℕ) → List Table → List Table
grouped_except columns = regrouped_by (λ label. not (is_listed columns label))
