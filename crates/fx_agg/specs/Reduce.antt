-- Rows folded into one by a row function.
use Rattle.std.specs.Prelude.{ℕ, true, List, [], ◌∷◌, map}
use Rattle.fx_data.specs.declared.key.Key.{Key}
use Rattle.fx_data.specs.declared.key.KeyEntry.{KeyEntry}
use Rattle.fx_data.specs.declared.keyed_row.KeyedRow.{KeyedRow}
use Rattle.fx_data.specs.declared.table.Table.{Table}
use Rattle.fx_data.specs.Regrouped.{regrouped}
use Rattle.fx_value.specs.Ends.{End, Gives, and_then, cut}
use Rattle.fx_value.specs.Works.{flat_each, walk, into}
use Rattle.fx_group.specs.Answer.{Row, Meaning, line_of}
use Rattle.fx_group.specs.Turned.{Groups, with_rows}

-- the accumulator that the function makes of the last one and a row
abbrev pub folded : Meaning → ℕ → Row → Row → End Row
folded means limit accumulator row = and_then (means (accumulator ∷ row ∷ []) limit) line_of

-- the accumulator after all rows, which is the identity where there are none
abbrev pub reduced_rows : Meaning → Row → List Row → ℕ → End Row
reduced_rows means identity rows limit = walk (folded means limit) identity rows

abbrev pub pinned : KeyEntry → KeyEntry
pinned e = record e { pinned = true }

-- the key with all of its labels pinned
abbrev pub all_pinned : Key → Key
all_pinned key = record { entries = map pinned key.entries }

abbrev pub reduced_to : Key → Row → KeyedRow
reduced_to key row = record { key = all_pinned key; row = row }

-- one row for the table
abbrev pub reduced_table : Meaning → Row → ℕ → Table → End (List KeyedRow)
reduced_table means identity limit t = and_then (reduced_rows means identity t.rows limit) (λ row. Gives (reduced_to t.key row ∷ []) 0)

abbrev pub reduced_tables : Meaning → Row → List Table → ℕ → End (List KeyedRow)
reduced_tables means identity tables limit = flat_each (reduced_table means identity limit) tables

-- `reduce`: the accumulators of the tables, regrouped
unfoldable pub reduced : Meaning → Row → List Table → ℕ → End (List Table)
reduced means identity tables limit = cut limit (and_then (reduced_tables means identity tables limit) (λ rows. Gives (regrouped rows) 0))

-- the groups with the accumulators of these tables
abbrev pub tables_reduced : Meaning → Row → Groups → List Table → ℕ → End Groups
tables_reduced means identity groups tables limit = into with_rows groups (reduced_tables means identity tables limit)
