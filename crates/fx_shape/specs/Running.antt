-- Rows beside what the rows before them come to.
use Rattle.std.specs.Prelude.{◌^◌, ◌-◌, ℤ, pos, neg_ℤ, ◌+ℤ◌, ◌-ℤ◌, int_le, int_div, int_lt, Bool, ◌&&◌, List, [], ◌∷◌, Option, None, Some, if◌then◌else◌}
use Rattle.std.specs.Ordering.{int_eq}
use Rattle.std.specs.FinMap.{get, insert}
use Rattle.fx_base.specs.declared.fault.FaultKind.TheVariants.{BadWindow, Overflow}
use Rattle.fx_base.specs.declared.place.Place.{Place}
use Rattle.fx_time.specs.declared.span.Span.{Span}
use Rattle.fx_value.specs.declared.scalar.Scalar.{Scalar}
use Rattle.fx_value.specs.declared.scalar.Scalar.TheVariants.{Null, Int, Time}
use Rattle.fx_value.specs.Ends.{End, Gives, Faults, Stuck, and_then}
use Rattle.fx_value.specs.Works.{flat_each}
use Rattle.fx_data.specs.Regrouped.{regrouped}
use Rattle.fx_data.specs.declared.keyed_row.KeyedRow.{KeyedRow}
use Rattle.fx_data.specs.declared.table.Table.{Table}
use Rattle.fx_group.specs.Answer.{Row}
use Rattle.fx_shape.specs.Columns.{Label}
use Rattle.fx_shape.specs.Run.{keyed}

-- an integer, or none where the column is null or isn't there; no other kind is taken
abbrev pub int_of : Option Scalar → End (Option ℤ)
int_of (Some (Int n)) = Gives (Some n) 0
int_of (Some Null) = Gives None 0
int_of None = Gives None 0
int_of value = Stuck

-- the same of times
abbrev pub time_of : Option Scalar → End (Option ℤ)
time_of (Some (Time t)) = Gives (Some t) 0
time_of (Some Null) = Gives None 0
time_of None = Gives None 0
time_of value = Stuck

abbrev pub got : End (Option ℤ) → Option ℤ
got (Gives value ticks) = value
got end = None

-- the last number so far
abbrev pub latest : Option ℤ → Option ℤ → Option ℤ
latest before None = before
latest before (Some n) = Some n

-- the sum so far
abbrev pub sum_with : Option ℤ → ℤ → ℤ
sum_with None n = n
sum_with (Some sum) n = sum +ℤ n

abbrev pub summed : Option ℤ → Option ℤ → Option ℤ
summed before None = before
summed before (Some n) = Some (sum_with before n)

-- each row, with what the numbers of the rows before it come to
abbrev pub with_before : (Option ℤ → Option ℤ → Option ℤ) → (Row → End (Option ℤ)) → Option ℤ → List Row → List (Option ℤ × Row)
with_before come read before [] = []
with_before come read before (row ∷ rows) = (before, row) ∷ with_before come read (come before (got (read row))) rows

-- the row with this number in the column, where it lies in 64 bits
abbrev pub in_64_bits : ℤ → Bool
in_64_bits n = int_le (neg_ℤ (pos (2 ^ 63))) n && int_le n (pos (2 ^ 63 - 1))

abbrev pub with_number : Place → Label → ℤ → Row → End (List Row)
with_number place column n row = if in_64_bits n then Gives (insert row column (Int n) ∷ []) 0 else Faults (record { kind = Overflow; place = place }) 0

-- a number less the last one before it. Rows up to the first number go, and a row without one stays
abbrev pub less_last : Place → Label → Option ℤ → Option ℤ → Row → End (List Row)
less_last place column None n row = Gives [] 0
less_last place column (Some last) None row = Gives (row ∷ []) 0
less_last place column (Some last) (Some n) row = with_number place column (n -ℤ last) row

-- a number together with those before it. A row without one stays
abbrev pub with_sum : Place → Label → Option ℤ → Option ℤ → Row → End (List Row)
with_sum place column sum None row = Gives (row ∷ []) 0
with_sum place column sum (Some n) row = with_number place column (sum_with sum n) row

-- how many units have passed since the last time before. Rows up to the first time go; a row without one has null
abbrev pub since_last : Place → ℤ → Label → Option ℤ → Option ℤ → Row → End (List Row)
since_last place unit name None time row = Gives [] 0
since_last place unit name (Some last) None row = Gives (insert row name Null ∷ []) 0
since_last place unit name (Some last) (Some time) row = with_number place name (int_div (time -ℤ last) unit) row

module _ (come : Option ℤ → Option ℤ → Option ℤ) (read : Row → End (Option ℤ)) (make : Option ℤ → Option ℤ → Row → End (List Row)) where
  -- what is made of a row, its number and what came before
  abbrev pub ran_row : Option ℤ × Row → End (List Row)
  ran_row (before, row) = and_then (read row) (λ number. make before number row)

  abbrev pub ran_rows : Option ℤ → List Row → End (List Row)
  ran_rows before rows = flat_each ran_row (with_before come read before rows)

  abbrev pub ran_table : Table → End (List KeyedRow)
  ran_table t = and_then (ran_rows None t.rows) (λ rows. Gives (keyed t.key rows) 0)

  abbrev pub ran_tables : List Table → End (List KeyedRow)
  ran_tables = flat_each ran_table

  -- the rows of each table in their order, regrouped
  abbrev pub ran : List Table → End (List Table)
  ran tables = and_then (ran_tables tables) (λ rows. Gives (regrouped rows) 0)

-- `difference`
unfoldable pub differenced : Place → Label → List Table → End (List Table)
differenced place column = ran latest (λ row. int_of (get row column)) (less_last place column)

-- `cumulativeSum`
unfoldable pub cumulated : Place → Label → List Table → End (List Table)
cumulated place column = ran summed (λ row. int_of (get row column)) (with_sum place column)

-- without months, and greater than 0
abbrev pub is_unit : Span → Bool
is_unit unit = int_eq unit.months (pos 0) && int_lt (pos 0) unit.nanos

-- `elapsed`
unfoldable pub passed : Place → Span → Label → Label → List Table → End (List Table)
passed place unit time name tables =
    if is_unit unit then ran latest (λ row. time_of (get row time)) (since_last place unit.nanos name) tables
    else Faults (record { kind = BadWindow; place = place }) 0
