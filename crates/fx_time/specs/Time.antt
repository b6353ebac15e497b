-- Times as texts. A time is `2024-06-19`, or that with `T`, `17:30:05`, maybe `.` with one to nine digits, and `Z` or an
-- offset from UTC as `+05:30` or `-05:30`: a date of the calendar, hours 00 to 23, minutes and seconds 00 to 59. A date
-- alone is midnight at UTC. Its value counts nanoseconds from 1970-01-01T00:00:00Z, and lies in 64 bits.
use Rattle.std.specs.Prelude.{◌≡◌, ℕ, ◌+◌, ◌*◌, ◌%◌, ◌<◌, ◌≤◌, ◌⊎◌, IsTrue, List, [], ◌∷◌, ◌++◌, length, ℤ, pos, neg_ℤ, ◌+ℤ◌, ◌-ℤ◌, ◌*ℤ◌, None, FitsSigned}
use Rattle.std.specs.Int.{w64}
use Rattle.std.specs.Str.{all_ascii_digits}
use Rattle.jiff_fmt.specs.Reader.{fraction_value}
use Rattle.jiff_fmt.specs.Text.{pad2, pad4, fraction_part}
use Rattle.fx_time.specs.Calendar.{Date, date_after, Clock, clock_on, clock_of, nanos_of_day}

-- `2024-06-19`
abbrev pub date_text : Date → List ℕ
date_text d = pad4 d.year ++ 45 ∷ pad2 d.month ++ 45 ∷ pad2 d.day

-- `2024-06-19T17:30:05`
abbrev pub seconds_text : Clock → List ℕ
seconds_text c = date_text c.date ++ 84 ∷ pad2 c.hour ++ 58 ∷ pad2 c.minute ++ 58 ∷ pad2 c.second

-- the text of an instant, as it is printed: `2024-06-19T17:30:05.25Z`, where the fraction ends at its last digit that
-- isn't 0
unfoldable pub time_text : ℤ → List ℕ
time_text t = seconds_text (clock_of t) ++ fraction_part None (clock_of t).nanosecond ++ 90 ∷ []

-- where a clock stands: at UTC, or by hours and minutes ahead of it or behind it
pub data Zone : Type 0 where
  Utc : Zone
  Ahead : ℕ → ℕ → Zone
  Behind : ℕ → ℕ → Zone

-- hours from 00 to 23, and minutes from 00 to 59
abbrev pub IsZone : Zone → Type 0
IsZone Utc = Unit {0}
IsZone (Ahead hours minutes) = (hours < 24) × (minutes < 60)
IsZone (Behind hours minutes) = (hours < 24) × (minutes < 60)

-- `Z`, `+05:30` or `-05:30`
abbrev pub zone_text : Zone → List ℕ
zone_text Utc = 90 ∷ []
zone_text (Ahead hours minutes) = 43 ∷ pad2 hours ++ 58 ∷ pad2 minutes
zone_text (Behind hours minutes) = 45 ∷ pad2 hours ++ 58 ∷ pad2 minutes

-- by how many nanoseconds the clock is ahead of UTC
abbrev pub zone_nanos : Zone → ℤ
zone_nanos Utc = pos 0
zone_nanos (Ahead hours minutes) = pos ((hours * 60 + minutes) * 60_000_000_000)
zone_nanos (Behind hours minutes) = neg_ℤ (pos ((hours * 60 + minutes) * 60_000_000_000))

-- at most nine digits, which are worth so many billionths
abbrev pub IsFraction : List ℕ → ℕ → Type 0
IsFraction digits n = IsTrue (all_ascii_digits digits) × (length digits ≤ 9) × (fraction_value 9 digits ≡ n)

-- `.25`, and nothing where there is no digit
abbrev pub fraction_text : List ℕ → List ℕ
fraction_text [] = []
fraction_text (d ∷ ds) = 46 ∷ d ∷ ds

-- the instant so many days after 1 January of the year 0, and so many nanoseconds after midnight
abbrev pub instant : ℕ → ℕ → ℤ
instant days nanos = (pos days -ℤ pos 719_528) *ℤ pos nanos_of_day +ℤ pos nanos

-- the text is a date alone
pub record IsMidnight (text : List ℕ) (t : ℤ) : Type 0 where
  pub days : ℕ
  pub spelled : text ≡ date_text (date_after days)
  pub value : t ≡ instant days 0

-- the text is a date with a clock's time and zone
pub record IsMoment (text : List ℕ) (t : ℤ) : Type 0 where
  pub days : ℕ
  pub nanos : ℕ
  pub digits : List ℕ
  pub zone : Zone
  pub nanos_in : nanos < nanos_of_day
  pub digits_in : IsFraction digits (nanos % 1_000_000_000)
  pub zone_in : IsZone zone
  pub spelled : text ≡ seconds_text (clock_on (date_after days) nanos) ++ fraction_text digits ++ zone_text zone
  pub value : t ≡ instant days nanos -ℤ zone_nanos zone

-- the text is a time, and this is its value
abbrev pub IsTime : List ℕ → ℤ → Type 0
IsTime text t = FitsSigned w64 t × (IsMidnight text t ⊎ IsMoment text t)
