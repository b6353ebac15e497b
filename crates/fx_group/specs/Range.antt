-- Rows between two times.
use Rattle.std.specs.Prelude.{ℤ, int_le, int_lt, Bool, false, ◌&&◌, List, [], ◌∷◌, map, Option, None, Some, if◌then◌else◌, codes}
use Rattle.std.specs.FinMap.{get}
use Rattle.fx_value.specs.declared.scalar.Scalar.{Scalar}
use Rattle.fx_value.specs.declared.scalar.Scalar.TheVariants.{Null, Time}
use Rattle.fx_data.specs.Columns.{with_column}
use Rattle.fx_data.specs.Gathered.{gathered}
use Rattle.fx_data.specs.Regrouped.{bare}
use Rattle.fx_data.specs.declared.key.Key.{Key}
use Rattle.fx_data.specs.declared.table.Table.{Table}
use Rattle.fx_group.specs.Answer.{Row}
use Rattle.fx_value.specs.Ends.{End, Gives, Stuck, and_then}
use Rattle.fx_value.specs.Works.{flat_each}

-- whether a value is a time at or after the start and before the stop; null is none, and no other kind is taken
abbrev pub is_between : ℤ → ℤ → Option Scalar → End Bool
is_between start stop (Some (Time t)) = Gives (int_le start t && int_lt t stop) 0
is_between start stop (Some Null) = Gives false 0
is_between start stop None = Gives false 0
is_between start stop value = Stuck

-- the row where its time lies between
abbrev pub row_between : ℤ → ℤ → Row → End (List Row)
row_between start stop row = and_then (is_between start stop (get row (codes "_time"))) (λ between. Gives (if between then row ∷ [] else []) 0)

-- the table with the two times as columns of its rows and of its key
abbrev pub bounded : ℤ → ℤ → Table → Table
bounded start stop t = with_column (codes "_stop") (Time stop) (with_column (codes "_start") (Time start) t)

-- a table with the rows that are left; one that lost all is dropped, and one that had none stays
abbrev pub left_of : Key → List Row → List Row → List Table
left_of key had (row ∷ rows) = record { key = key; rows = row ∷ rows } ∷ []
left_of key [] [] = bare key ∷ []
left_of key (row ∷ had) [] = []

abbrev pub ranged_table : ℤ → ℤ → Table → End (List Table)
ranged_table start stop t = and_then (flat_each (row_between start stop) t.rows) (λ rows. Gives (map (bounded start stop) (left_of t.key t.rows rows)) 0)

-- `range`: of each table the rows between the times, with these as columns and in the key; in key order
unfoldable pub ranged : ℤ → ℤ → List Table → End (List Table)
ranged start stop tables = and_then (flat_each (ranged_table start stop) tables) (λ ts. Gives (gathered ts) 0)
