-- The fields of a time: those of its clock, and where its day stands in the year and in the week.
use Rattle.std.specs.Prelude.{ℕ, zero, suc, ◌+◌, ◌-◌, ℤ, pos, ◌+ℤ◌, unsigned_abs}
use Rattle.std.specs.Int.{int_div_euclid, int_rem_euclid}
use Rattle.fx_time.specs.Calendar.{Date, days_in_month, clock_of, nanos_of_day}
use Rattle.fx_time.specs.declared.fields.TimeFields.{TimeFields}

-- the days of the first n months of the year
unfoldable pub months_days : ℕ → ℕ → ℕ
months_days year zero = 0
months_days year (suc n) = months_days year n + days_in_month year (suc n)

-- which day of its year a date is; 1 January is the first
abbrev pub year_day : Date → ℕ
year_day date = months_days date.year (date.month - 1) + date.day

-- which day of the week the day is, so many days after 1 January 1970: the seven days come in turn, Sunday is 0, and
-- that day was a Thursday
abbrev pub week_day : ℤ → ℕ
week_day day = unsigned_abs (int_rem_euclid (day +ℤ pos 4) (pos 7))

abbrev pub fields_of : ℤ → TimeFields
fields_of t = record {
  year = (clock_of t).date.year;
  month = (clock_of t).date.month;
  day = (clock_of t).date.day;
  year_day = year_day (clock_of t).date;
  week_day = week_day (int_div_euclid t (pos nanos_of_day));
  hour = (clock_of t).hour;
  minute = (clock_of t).minute;
  second = (clock_of t).second;
  nanosecond = (clock_of t).nanosecond;
}
