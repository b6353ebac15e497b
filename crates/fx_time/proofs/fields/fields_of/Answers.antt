use Rattle.std.proofs.Common.{◌≡◌, ℕ, zero, suc, ◌+◌, ◌-◌, ◌%◌, ℤ, pos, FitsSigned, w64, to_z, of_z, unsigned_abs, refl, ap, ◌∙◌, arith}
use Rattle.std.specs.Int.{w16, int_div_euclid}
use Rattle.std.proofs.lemmas.Int.{to_z-of_z}
use Rattle.jiff_core.specs.Calendar.{days_of_months, weekday_number}
use Rattle.jiff_core.specs.Date.{epoch_day, ordinal, weekday_of}
use Rattle.jiff_core.specs.DateTime.{civil_nanos}
use Rattle.jiff_core.specs.declared.civil.datetime.DateTime.{DateTime}
use Rattle.jiff_core.proofs.SignedLemmas.{signed_arith}
use Rattle.jiff_core.proofs.DateTimeLemmas.{epoch_day-civil_nanos}
use Rattle.fx_time.specs.Calendar.{Clock, days_in_month, clock_of, nanos_of_day}
use Rattle.fx_time.specs.Fields.{months_days, year_day, week_day}
use Rattle.fx_time.proofs.PrintLemmas.{Shows, shown_is}
use Rattle.fx_time.proofs.fields.fields_of.Goals as goal

months_same : (year n : ℕ) → days_of_months (pos year) n ≡ months_days year n
unfolding days_of_months months_days
months_same year zero = refl
months_same year (suc n) = ap (λ days. days + days_in_month year (suc n)) (months_same year n)

place_same : (dt : DateTime) (c : Clock) → Shows dt c → ordinal dt.date ≡ year_day c.date
place_same dt c s = rw (s.year, s.month, s.day) (ap (λ days. days + c.date.day) (months_same c.date.year (c.date.month - 1)))

week_same : (day : ℤ) → (weekday_number day + 1) % 7 ≡ week_day day
unfolding weekday_number
week_same day = omega (arith, signed_arith)

pub overflow_cast-result : goal.overflow_cast-result
overflow_cast-result c =
    let t : FitsSigned w64 c.args.t = c.ranges.t in
    let date = c.shown_at-shown.result.date in
    let e : civil_nanos c.shown_at-shown.result ≡ c.args.t = simp to_z-of_z at c.shown_at-shown.ensures in
    let s = shown_is c.shown_at-shown.result c.args.t e t in
    let fits : FitsSigned w16 date.year = omega (arith, signed_arith, date.year_in) in
    let year = s.year in
    simp to_z-of_z (omega (arith, signed_arith, date.year_in))

pub returns : goal.returns
returns c =
    let t : FitsSigned w64 c.args.t = c.ranges.t in
    let dt = c.shown_at-shown.result in
    let e : civil_nanos dt ≡ c.args.t = simp to_z-of_z at c.shown_at-shown.ensures in
    let s = shown_is dt c.args.t e t in
    let fits : FitsSigned w16 dt.date.year = omega (arith, signed_arith, dt.date.year_in) in
    let year : unsigned_abs (to_z w16 (of_z w16 dt.date.year)) ≡ (clock_of c.args.t).date.year = simp to_z-of_z (ap unsigned_abs s.year) in
    let place = c.day_of_year.ensures.value ∙ place_same dt (clock_of c.args.t) s in
    let day : epoch_day dt.date ≡ int_div_euclid c.args.t (pos nanos_of_day) = epoch_day-civil_nanos dt ∙ ap (λ z. int_div_euclid z (pos nanos_of_day)) e in
    let index : c.index.result ≡ weekday_of dt.date = c.index.ensures.value ∙ c.weekday.ensures in
    let week : (c.index.result + 1) % 7 ≡ week_day (int_div_euclid c.args.t (pos nanos_of_day)) =
    ap (λ n. (n + 1) % 7) index ∙ week_same (epoch_day dt.date) ∙ ap week_day day in
    λ i. record {
      year = year i;
      month = s.month i;
      day = s.day i;
      year_day = place i;
      week_day = week i;
      hour = s.hour i;
      minute = s.minute i;
      second = s.second i;
      nanosecond = s.nanosecond i;
    }
