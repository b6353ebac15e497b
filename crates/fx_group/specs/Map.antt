-- Rows that a row function makes of rows.
use Rattle.std.specs.Prelude.{ℕ, List, [], ◌∷◌}
use Rattle.fx_data.specs.declared.key.Key.{Key}
use Rattle.fx_data.specs.declared.keyed_row.KeyedRow.{KeyedRow}
use Rattle.fx_data.specs.declared.table.Table.{Table}
use Rattle.fx_data.specs.Regrouped.{regrouped}
use Rattle.fx_group.specs.Answer.{Row, Meaning, turned}
use Rattle.fx_value.specs.Ends.{End, Gives, and_then, cut}
use Rattle.fx_value.specs.Works.{flat_each}

-- the row that is made of a row, with the key that the row had
abbrev pub mapped_row : Meaning → Key → ℕ → Row → End (List KeyedRow)
mapped_row means key limit row = and_then (turned means limit row) (λ made. Gives (record { key = key; row = made } ∷ []) 0)

abbrev pub mapped_table : Meaning → ℕ → Table → End (List KeyedRow)
mapped_table means limit t = flat_each (mapped_row means t.key limit) t.rows

abbrev pub mapped_tables : Meaning → List Table → ℕ → End (List KeyedRow)
mapped_tables means tables limit = flat_each (mapped_table means limit) tables

-- `map`: each row becomes what the function makes of it, and the rows are regrouped
unfoldable pub mapped : Meaning → List Table → ℕ → End (List Table)
mapped means tables limit = cut limit (and_then (mapped_tables means tables limit) (λ rows. Gives (regrouped rows) 0))
