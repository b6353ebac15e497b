-- The time that a text spells, as a function. `Time` says which texts are times and what they are worth; here the parts
-- that stand at their places in the text are put together.
use Rattle.std.specs.Prelude.{ℕ, ◌+◌, ◌*◌, ◌&&◌, nat_le, Bool, if◌then◌else◌, List, ℤ, pos, ◌+ℤ◌, ◌-ℤ◌, unsigned_abs, Option, Some, None}
use Rattle.jiff_core.specs.Sign.{signed}
use Rattle.fx_time.specs.Calendar.{Date, days_in_month}
use Rattle.fx_time.specs.Front.{◌>>=◌, moment_front}
use Rattle.fx_time.specs.Months.{first_day, month_of}
use Rattle.fx_time.specs.Spans.{moment}
use Rattle.fx_time.specs.Time.{instant}
use Rattle.fx_time.specs.declared.read.Moment.{Moment}

-- a month of the year and a day of the month
abbrev pub is_date : Date → Bool
is_date d = nat_le 1 d.month && (nat_le d.month 12 && (nat_le 1 d.day && nat_le d.day (days_in_month d.year d.month)))

-- how many days after 1 January of the year 0 the date comes: its month's first day, and the days before it in the month
abbrev pub day_number : Date → ℕ
day_number d = unsigned_abs (first_day (month_of d) +ℤ pos d.day +ℤ pos 719_527)

-- the same, where the calendar has the date
abbrev pub days_to : Date → Option ℕ
days_to d = if is_date d then Some (day_number d) else None

abbrev pub date_of_moment : Moment → Date
date_of_moment m = record { year = m.year; month = m.month; day = m.day }

-- the instant that a moment means, where its date comes so many days after 1 January of the year 0
abbrev pub moment_at : ℕ → Moment → ℤ
moment_at n m = instant n m.nanos -ℤ signed m.behind (m.minutes * 60_000_000_000)

-- the time that the text spells; None where it spells none
abbrev pub time_value : List ℕ → Option ℤ
time_value text = moment_front text >>= λ m. days_to (date_of_moment m) >>= λ n. moment (moment_at n m)
