-- Rows that a row function wants.
use Rattle.std.specs.Prelude.{ℕ, List, [], ◌∷◌, if◌then◌else◌}
use Rattle.fx_data.specs.declared.key.Key.{Key}
use Rattle.fx_data.specs.declared.table.Table.{Table}
use Rattle.fx_group.specs.Answer.{Row, Meaning, tested}
use Rattle.fx_value.specs.Ends.{End, Gives, and_then, cut}
use Rattle.fx_value.specs.Works.{flat_each}

-- the row where it is wanted
abbrev pub kept_row : Meaning → ℕ → Row → End (List Row)
kept_row means limit row = and_then (tested means limit row) (λ wanted. Gives (if wanted then row ∷ [] else []) 0)

abbrev pub kept_rows : Meaning → List Row → ℕ → End (List Row)
kept_rows means rows limit = flat_each (kept_row means limit) rows

-- rows under their key; without rows there is no table
abbrev pub table_if : Key → List Row → List Table
table_if key [] = []
table_if key (row ∷ rows) = record { key = key; rows = row ∷ rows } ∷ []

abbrev pub kept_table : Meaning → ℕ → Table → End (List Table)
kept_table means limit t = and_then (kept_rows means t.rows limit) (λ rows. Gives (table_if t.key rows) 0)

abbrev pub kept_tables : Meaning → List Table → ℕ → End (List Table)
kept_tables means tables limit = flat_each (kept_table means limit) tables

-- `filter`: tables in their order, and of each the rows that are wanted, in their order
unfoldable pub filtered : Meaning → List Table → ℕ → End (List Table)
filtered means tables limit = cut limit (kept_tables means tables limit)
