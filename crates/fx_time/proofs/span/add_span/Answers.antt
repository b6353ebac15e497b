use Rattle.std.proofs.Common.{◌≡◌, Bool, true, false, Option, Some, None, ℤ, pos, ◌+ℤ◌, ◌*ℤ◌, FitsSigned, w64, unsigned_abs, refl, sym, ap, ◌∙◌, arith, rules}
use Rattle.std.specs.Prelude.{if◌then◌else◌}
use Rattle.std.specs.Int.{int_div_euclid, int_rem_euclid}
use Rattle.std.proofs.lemmas.Int.{to_z-of_z}
use Rattle.jiff_core.proofs.SignedLemmas.{signed_arith}
use Rattle.fx_time.specs.Calendar.{clock_of, nanos_of_day}
use Rattle.fx_time.specs.Months.{month_of, first_day, HoldsDay, year_of}
use Rattle.fx_time.specs.Spans.{day_in, is_year, moment, moved, month_after}
use Rattle.fx_time.proofs.MonthLemmas.{clock_month, clock_day, one_month}
use Rattle.fx_time.proofs.span.add_span.Goals as goal

-- the month that the code finds is that of the calendar
found : (t quotient month : ℤ) → FitsSigned w64 t → quotient ≡ int_div_euclid t (pos nanos_of_day) → HoldsDay month quotient → month ≡ month_of (clock_of t).date
found t quotient month fits e holds =
    one_month quotient month (month_of (clock_of t).date) holds (rw e (clock_month t fits))

-- and so is the day of the month
place : (t quotient month day : ℤ) → FitsSigned w64 t → quotient ≡ int_div_euclid t (pos nanos_of_day) → month ≡ month_of (clock_of t).date
    → (first_day month +ℤ day) ≡ (quotient +ℤ pos 1) → unsigned_abs day ≡ (clock_of t).date.day
place t quotient month day fits e is sum =
    let first = ap first_day is in
    let known = clock_day t fits in
    let same : day ≡ pos (clock_of t).date.day = omega (arith, signed_arith) in
    ap unsigned_abs same

none_if : (b : Bool) (x : ℤ) (o : Option ℤ) → None ≡ (if b then Some x else None) → None ≡ (if b then o else None)
none_if true x o e = cc
none_if false x o e = refl

some_if : (b : Bool) (x y : ℤ) (o : Option ℤ) → Some y ≡ (if b then Some x else None) → (y ≡ x) × (o ≡ (if b then o else None))
some_if true x y o e = (cc, refl)
some_if false x y o e = absurd cc

pub returns-in_err-later : goal.returns-in_err-later
returns-in_err-later c =
    let t : FitsSigned w64 c.args.t = c.ranges.t in
    let months : FitsSigned w64 c.args.span.months = search rules in
    let whole : c.div_euclid-day.result ≡ int_div_euclid c.args.t (pos nanos_of_day) = simp to_z-of_z at c.div_euclid-day.ensures in
    let day : FitsSigned w64 c.div_euclid-day.result = omega (arith, signed_arith) in
    let month : FitsSigned w64 c.month_of_day-month.result = omega (arith, signed_arith, c.month_of_day-month.ensures.bound) in
    let is = found c.args.t c.div_euclid-day.result c.month_of_day-month.result t whole (simp to_z-of_z at c.month_of_day-month.ensures.month) in
    let none = rw is at (simp to_z-of_z at c.month_later.ensures.value) in
    let was = c.in_err-later.was in
    c.from_residual.ensures ∙ none_if (is_year (year_of (month_after c.args.t c.args.span.months))) _ _ (sym was ∙ none)

pub returns : goal.returns
returns c =
    let t : FitsSigned w64 c.args.t = c.ranges.t in
    let months : FitsSigned w64 c.args.span.months = search rules in
    let nanos : FitsSigned w64 c.args.span.nanos = search rules in
    let whole : c.div_euclid-day.result ≡ int_div_euclid c.args.t (pos nanos_of_day) = simp to_z-of_z at c.div_euclid-day.ensures in
    let day : FitsSigned w64 c.div_euclid-day.result = omega (arith, signed_arith) in
    let month : FitsSigned w64 c.month_of_day-month.result = omega (arith, signed_arith, c.month_of_day-month.ensures.bound) in
    let is = found c.args.t c.div_euclid-day.result c.month_of_day-month.result t whole (simp to_z-of_z at c.month_of_day-month.ensures.month) in
    let some = rw is at (simp to_z-of_z at c.month_later.ensures.value) in
    let was = c.in_ok-later.was in
    let later = some_if (is_year (year_of (month_after c.args.t c.args.span.months))) _ _ (moment (moved c.args.t c.args.span)) (sym was ∙ some) in
    let left : FitsSigned w64 c.rem_euclid.result = omega (arith, signed_arith, c.rem_euclid.ensures.lower_bound, c.rem_euclid.ensures.upper_bound) in
    let later64 : FitsSigned w64 c.in_ok-later.later = omega (arith, signed_arith, c.in_ok-later.ensures.bound) in
    let into64 : FitsSigned w64 c.day_of_month.result = omega (arith, signed_arith, c.day_of_month.ensures.bound) in
    let moved64 : FitsSigned w64 c.day_in-moved.result = omega (arith, signed_arith, c.day_in-moved.ensures.bound) in
    let into = place c.args.t c.div_euclid-day.result c.month_of_day-month.result c.day_of_month.result t whole is (simp to_z-of_z at c.day_of_month.ensures.value) in
    let value = simp to_z-of_z at c.day_in-moved.ensures.value in
    let moved_day : c.day_in-moved.result ≡ day_in (month_after c.args.t c.args.span.months) (clock_of c.args.t).date.day = value ∙ (λ i. day_in (later.0 i) (into i)) in
    let clock : c.rem_euclid.result ≡ int_rem_euclid c.args.t (pos nanos_of_day) = simp to_z-of_z at c.rem_euclid.ensures.value in
    let sum = simp to_z-of_z at c.moment_on.ensures in
    sum ∙ (λ i. moment (moved_day i *ℤ pos nanos_of_day +ℤ clock i +ℤ c.args.span.nanos)) ∙ later.1
