-- Where rows stand in time.
use Rattle.std.specs.Prelude.{ℤ, List, [], ◌∷◌, Option, None, Some, codes}
use Rattle.std.specs.FinMap.{get}
use Rattle.fx_value.specs.declared.scalar.Scalar.{Scalar}
use Rattle.fx_value.specs.declared.scalar.Scalar.TheVariants.{Null, Time}
use Rattle.fx_value.specs.Ends.{End, Gives, Stuck, and_then}
use Rattle.fx_value.specs.Works.{flat_each}
use Rattle.fx_group.specs.Answer.{Row}
use Rattle.fx_window.specs.declared.standing.Placed.{Placed}
use Rattle.fx_window.specs.declared.standing.Stand.{Stand}

-- a time for itself; null and a missing column for none, and no other kind is taken
abbrev pub time_of : Option Scalar → End (Option ℤ)
time_of (Some (Time t)) = Gives (Some t) 0
time_of (Some Null) = Gives None 0
time_of None = Gives None 0
time_of value = Stuck

-- three times together, where none of them is missing
abbrev pub stand_by : Option ℤ → Option ℤ → Option ℤ → Option Stand
stand_by (Some time) (Some low) (Some high) = Some (record { time = time; low = low; high = high })
stand_by time low high = None

-- the time of a row, and the bounds that it has
abbrev pub stand_of : Row → End (Option Stand)
stand_of row =
    and_then (time_of (get row (codes "_time"))) (λ time. and_then (time_of (get row (codes "_start"))) (λ low.
    and_then (time_of (get row (codes "_stop"))) (λ high. Gives (stand_by time low high) 0)))

-- the row, where it has all three
abbrev pub placed_by : Row → Option Stand → List Placed
placed_by row None = []
placed_by row (Some at) = record { at = at; row = row } ∷ []

abbrev pub placed_row : Row → End (List Placed)
placed_row row = and_then (stand_of row) (λ at. Gives (placed_by row at) 0)

-- the rows that have all three, each with them
abbrev pub placed_rows : List Row → End (List Placed)
placed_rows rows = flat_each placed_row rows
