-- A time and a span after it.
use Rattle.std.specs.Prelude.{ℕ, ◌^◌, ◌-◌, min, Bool, ◌&&◌, if◌then◌else◌, ℤ, pos, neg_ℤ, ◌+ℤ◌, ◌-ℤ◌, ◌*ℤ◌, int_le, Option, Some, None}
use Rattle.std.specs.Int.{int_rem_euclid}
use Rattle.fx_time.specs.Calendar.{clock_of, nanos_of_day}
use Rattle.fx_time.specs.Months.{year_of, month_days, first_day, month_of}
use Rattle.fx_time.specs.declared.span.Span.{Span}

-- how many days after 1 January 1970 a day of the month is, or the last day where the month has no such day
abbrev pub day_in : ℤ → ℕ → ℤ
day_in month day = first_day month +ℤ pos (min day (month_days month)) -ℤ pos 1

-- the month so many months after that of a time
abbrev pub month_after : ℤ → ℤ → ℤ
month_after t months = month_of (clock_of t).date +ℤ months

-- the time moved by the months, at the same time of day, and then by the nanoseconds
abbrev pub moved : ℤ → Span → ℤ
moved t span =
    day_in (month_after t span.months) (clock_of t).date.day *ℤ pos nanos_of_day +ℤ int_rem_euclid t (pos nanos_of_day) +ℤ span.nanos

-- a year from -9999 to 9999
abbrev pub is_year : ℤ → Bool
is_year year = int_le (neg_ℤ (pos 9999)) year && int_le year (pos 9999)

-- the time, where it lies in 64 bits
abbrev pub moment : ℤ → Option ℤ
moment t = if int_le (neg_ℤ (pos (2 ^ 63))) t && int_le t (pos (2 ^ 63 - 1)) then Some t else None

-- the time after the span, None where the months lead out of the years or the whole out of 64 bits
abbrev pub span_after : ℤ → Span → Option ℤ
span_after t span = if is_year (year_of (month_after t span.months)) then moment (moved t span) else None
