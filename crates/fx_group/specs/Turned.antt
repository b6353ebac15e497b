-- Rows that a function makes, put behind what was gathered before.
use Rattle.std.specs.Prelude.{ℕ, List, map}
use Rattle.std.specs.FinMap.{FinMap}
use Rattle.fx_data.specs.Key.{key_cmp}
use Rattle.fx_data.specs.Regrouped.{all_joined, alone}
use Rattle.fx_data.specs.declared.key.Key.{Key}
use Rattle.fx_data.specs.declared.keyed_row.KeyedRow.{KeyedRow}
use Rattle.fx_data.specs.declared.table.Table.{Table}
use Rattle.fx_group.specs.Answer.{Row, Meaning}
use Rattle.fx_group.specs.Map.{mapped_row, mapped_tables}
use Rattle.fx_value.specs.Ends.{End}
use Rattle.fx_value.specs.Works.{flat_each, into}

-- for each key its rows
abbrev pub Groups : Type 0
Groups = FinMap key_cmp (List Row)

-- the groups with these rows under their new keys
abbrev pub with_rows : Groups → List KeyedRow → Groups
with_rows groups rows = all_joined groups (map alone rows)

-- the groups with what is made of rows with this key
abbrev pub rows_turned : Meaning → Groups → Key → List Row → ℕ → End Groups
rows_turned means groups key rows limit = into with_rows groups (flat_each (mapped_row means key limit) rows)

-- the groups with what is made of the rows of these tables
abbrev pub tables_turned : Meaning → Groups → List Table → ℕ → End Groups
tables_turned means groups tables limit = into with_rows groups (mapped_tables means tables limit)
