-- The Gregorian calendar, one day at a time, and a clock at UTC.
use Rattle.std.specs.Prelude.{ℕ, zero, suc, ◌+◌, ◌/◌, ◌%◌, ◌==◌, ◌&&◌, ◌||◌, not, nat_lt, Bool, if◌then◌else◌, ℤ, pos, ◌+ℤ◌, unsigned_abs}
use Rattle.std.specs.Int.{int_div_euclid, int_rem_euclid}

-- every fourth year is one, but of the centuries only every fourth
abbrev pub is_leap_year : ℕ → Bool
is_leap_year year = (year % 4 == 0) && (not (year % 100 == 0) || (year % 400 == 0))

-- thirty days have April, June, September and November; February has 28, and 29 in a leap year
abbrev pub days_in_month : ℕ → ℕ → ℕ
days_in_month year month =
    if month == 2 then (if is_leap_year year then 29 else 28)
    else (if (month == 4) || (month == 6) || (month == 9) || (month == 11) then 30 else 31)

-- months and days count from 1
pub record Date : Type 0 where
  pub year : ℕ
  pub month : ℕ
  pub day : ℕ

-- the day after a date
unfoldable pub next_day : Date → Date
next_day d =
    if nat_lt d.day (days_in_month d.year d.month) then record { year = d.year; month = d.month; day = d.day + 1 }
    else (if nat_lt d.month 12 then record { year = d.year; month = d.month + 1; day = 1 }
    else record { year = d.year + 1; month = 1; day = 1 })

-- the date so many days after 1 January of the year 0
unfoldable pub date_after : ℕ → Date
date_after zero = record { year = 0; month = 1; day = 1 }
date_after (suc n) = next_day (date_after n)

-- what a calendar and a clock at UTC show
pub record Clock : Type 0 where
  pub date : Date
  pub hour : ℕ
  pub minute : ℕ
  pub second : ℕ
  pub nanosecond : ℕ

-- a day has 86,400 seconds
abbrev pub nanos_of_day : ℕ
nanos_of_day = 86_400_000_000_000

-- the time of day that many nanoseconds after midnight
abbrev pub clock_on : Date → ℕ → Clock
clock_on date nanos = record {
  date = date;
  hour = nanos / 3_600_000_000_000;
  minute = nanos / 60_000_000_000 % 60;
  second = nanos / 1_000_000_000 % 60;
  nanosecond = nanos % 1_000_000_000;
}

-- what it shows at an instant: 1 January 1970 was 719,528 days after 1 January of the year 0
abbrev pub clock_of : ℤ → Clock
clock_of t =
    clock_on (date_after (unsigned_abs (int_div_euclid t (pos nanos_of_day) +ℤ pos 719_528)))
    (unsigned_abs (int_rem_euclid t (pos nanos_of_day)))
