-- Months of the calendar as whole numbers: 0 is January 1970, and the months before it are negative.
use Rattle.std.specs.Prelude.{ℕ, zero, suc, ◌+◌, ◌*◌, ℤ, pos, negsuc, neg_ℤ, ◌+ℤ◌, ◌-ℤ◌, ◌*ℤ◌, ◌≤ℤ◌, ◌<ℤ◌, unsigned_abs}
use Rattle.std.specs.Int.{int_div_euclid, int_rem_euclid}
use Rattle.fx_time.specs.Calendar.{Date, days_in_month, nanos_of_day}

-- the year that holds the month
abbrev pub year_of : ℤ → ℤ
year_of month = int_div_euclid month (pos 12) +ℤ pos 1970

-- how many days the month has; leap years come again after 400 years
abbrev pub month_days : ℤ → ℕ
month_days month =
    days_in_month (unsigned_abs (int_rem_euclid (year_of month) (pos 400))) (unsigned_abs (int_rem_euclid month (pos 12)) + 1)

-- the days of the first n months from January 1970 on
unfoldable pub days_after : ℕ → ℕ
days_after zero = 0
days_after (suc n) = days_after n + month_days (pos n)

-- the days of the last n months before January 1970
unfoldable pub days_before : ℕ → ℕ
days_before zero = 0
days_before (suc n) = days_before n + month_days (negsuc n)

-- how many days after 1 January 1970 the month begins
abbrev pub first_day : ℤ → ℤ
first_day (pos n) = pos (days_after n)
first_day (negsuc n) = neg_ℤ (pos (days_before (suc n)))

-- the day, counted from 1 January 1970, lies in the month
abbrev pub HoldsDay : ℤ → ℤ → Type 0
HoldsDay month day = (first_day month ≤ℤ day) × (day <ℤ first_day (month +ℤ pos 1))

-- the first moment of the month
abbrev pub month_start : ℤ → ℤ
month_start month = first_day month *ℤ pos nanos_of_day

-- the month of a date
abbrev pub month_of : Date → ℤ
month_of date = pos (date.year * 12 + date.month) -ℤ pos 23_641
