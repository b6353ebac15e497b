-- What the library prints for an instant is the text of the instant.
use Rattle.std.proofs.Common.{◌≡◌, ℕ, ◌^◌, ◌<◌, [], ◌∷◌, ◌++◌, None, false, ℤ, pos, ◌+ℤ◌, ◌≤ℤ◌, unsigned_abs, FitsSigned, w64, refl, sym, ap, ◌∙◌, arith}
use Rattle.std.specs.Int.{int_div_euclid, int_rem_euclid}
use Rattle.jiff_core.specs.declared.civil.datetime.DateTime.{DateTime}
use Rattle.jiff_core.specs.Calendar.{IsWithin}
use Rattle.jiff_core.specs.Date.{epoch_day}
use Rattle.jiff_core.specs.Time.{time_nanos}
use Rattle.jiff_core.specs.DateTime.{civil_nanos}
use Rattle.jiff_core.proofs.SignedLemmas.{signed_arith, int_div_euclid-parts, int_rem_euclid-parts, unsigned_abs-parts}
use Rattle.jiff_core.proofs.DateTimeLemmas.{civil_nanos-parts, epoch_day-civil_nanos}
use Rattle.jiff_fmt.specs.Text.{datetime_text}
use Rattle.fx_time.specs.Calendar.{Clock, clock_of, nanos_of_day}
use Rattle.fx_time.specs.Time.{time_text}
use Rattle.fx_time.proofs.CalendarLemmas.{date_after-same, nonneg_abs}

-- the days from the year 0 to an instant
abbrev pub days : ℤ → ℕ
days t = unsigned_abs (int_div_euclid t (pos nanos_of_day) +ℤ pos 719_528)

-- the nanoseconds from midnight to an instant
abbrev pub nanos : ℤ → ℕ
nanos t = unsigned_abs (int_rem_euclid t (pos nanos_of_day))

-- the days from 1 January of the year 0 to a time, also to one that is a little past 64 bits
pub days_near : (t : ℤ) → IsWithin (2 ^ 65) t → pos (days t) ≡ int_div_euclid t (pos nanos_of_day) +ℤ pos 719_528
days_near t near =
    let parts = int_div_euclid-parts t nanos_of_day (omega arith) in
    nonneg_abs (int_div_euclid t (pos nanos_of_day) +ℤ pos 719_528) (omega (arith, signed_arith, near))

pub days_is : (t : ℤ) → FitsSigned w64 t → (pos (days t) ≡ int_div_euclid t (pos nanos_of_day) +ℤ pos 719_528) × (days t < 3_652_425)
days_is t f =
    let parts = int_div_euclid-parts t nanos_of_day (omega arith) in
    let parts = int_div_euclid-parts t nanos_of_day (omega arith) in
    let same = days_near t (omega (arith, signed_arith, f), omega (arith, signed_arith, f)) in
    (same, omega (arith, signed_arith, f))

nanos_is : (dt : DateTime) (t : ℤ) → civil_nanos dt ≡ t → nanos t ≡ time_nanos dt.time
nanos_is dt t e =
    let whole = epoch_day-civil_nanos dt ∙ ap (λ z. int_div_euclid z (pos nanos_of_day)) e in
    let left = int_rem_euclid-parts t nanos_of_day (omega arith) in
    let same = unsigned_abs-parts (int_rem_euclid t (pos nanos_of_day)) in
    let parts = sym (civil_nanos-parts dt) ∙ e in
    omega (arith, signed_arith)

-- what the library shows of an instant is what the clock shows
pub record Shows (dt : DateTime) (c : Clock) : Type 0 where
  pub year : dt.date.year ≡ pos c.date.year
  pub month : dt.date.month ≡ c.date.month
  pub day : dt.date.day ≡ c.date.day
  pub hour : dt.time.hour ≡ c.hour
  pub minute : dt.time.minute ≡ c.minute
  pub second : dt.time.second ≡ c.second
  pub nanosecond : dt.time.subsec_nanosecond ≡ c.nanosecond

pub shown_is : (dt : DateTime) (t : ℤ) → civil_nanos dt ≡ t → FitsSigned w64 t → Shows dt (clock_of t)
shown_is dt t e f =
    let day = days_is t f in
    let here : epoch_day dt.date +ℤ pos 719_528 ≡ pos (days t) = ap (λ z. z +ℤ pos 719_528) (epoch_day-civil_nanos dt ∙ ap (λ z. int_div_euclid z (pos nanos_of_day)) e) ∙ sym day.0 in
    let date = date_after-same (days t) dt.date day.1 here in
    let within : nanos t ≡ time_nanos dt.time = nanos_is dt t e in
    record {
      year = date.0;
      month = date.1;
      day = date.2;
      hour = omega (arith, dt.time.minute_in, dt.time.second_in, dt.time.subsec_in);
      minute = omega (arith, dt.time.minute_in, dt.time.second_in, dt.time.subsec_in);
      second = omega (arith, dt.time.minute_in, dt.time.second_in, dt.time.subsec_in);
      nanosecond = omega (arith, dt.time.minute_in, dt.time.second_in, dt.time.subsec_in);
    }

pub printed_is : (dt : DateTime) (t : ℤ) → civil_nanos dt ≡ t → FitsSigned w64 t → datetime_text false 84 None dt ++ 90 ∷ [] ≡ time_text t
unfolding time_text
printed_is dt t e f =
    let s = shown_is dt t e f in
    rw (s.year, s.month, s.day, s.hour, s.minute, s.second, s.nanosecond) refl
