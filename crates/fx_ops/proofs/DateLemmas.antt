-- The window that holds a time is the one of its number, and spans turned back.
use Rattle.std.proofs.Common.{◌≡◌, ◌<◌, Bool, true, false, inl, inr, Some, None, ℤ, pos, ◌+ℤ◌, FitsSigned, w64, unsigned_abs, refl, sym, ap, ◌∙◌, arith}
use Rattle.std.specs.Prelude.{◌<ℤ◌, ◌↔◌, if◌then◌else◌, Ok, Err}
use Rattle.std.specs.Int.{int_div_euclid}
use Rattle.std.proofs.lemmas.Int.{ints}
use Rattle.fx_base.specs.declared.fault.FaultKind.TheVariants.{TimeRange}
use Rattle.fx_time.specs.Calendar.{clock_of}
use Rattle.fx_time.specs.Months.{month_of}
use Rattle.fx_time.specs.Spans.{moment}
use Rattle.fx_time.specs.Windows.{IsWindow, has_months, window_start, Holds}
use Rattle.fx_time.specs.declared.span.Span.{Span}
use Rattle.fx_time.proofs.MonthLemmas.{clock_month}
use Rattle.fx_time.proofs.TestLemmas.{int_tells, lt_holds, lt_fails, moment_in, moment_out}
use Rattle.fx_time.proofs.WindowLemmas.{starts_after, started_months, started_nanos, stop_next, some_nanos}
use Rattle.fx_value.specs.declared.scalar.Scalar.TheVariants.{Time}
use Rattle.fx_ops.specs.Dates.{is_unit, window_at, time_from, truncated}
use Rattle.fx_ops.specs.Whole.{in_64_bits}

-- a window starts after a time exactly where its number is past that of the time's window
started : (unit : Span) (t : ℤ) → FitsSigned w64 t → IsWindow unit → (k : ℤ) → (t <ℤ window_start unit k) ↔ (window_at unit t <ℤ k)
started unit t fits window k = elim (int_tells (pos 0) unit.months) [
  | inl months ↦
      let has : has_months unit ≡ true = lt_holds (pos 0) unit.months months in
      let month = month_of (clock_of t).date in
      let some : 0 < unsigned_abs unit.months = omega (arith, ints) in
      let e : unit.months ≡ pos (unsigned_abs unit.months) = omega (arith, ints) in
      let number : window_at unit t ≡ int_div_euclid month unit.months = rw has refl in
      rw number (started_months unit (unsigned_abs unit.months) some t month k has e (λ j. starts_after t month j (clock_month t fits)))
  | inr nanos ↦
      let has : has_months unit ≡ false = lt_fails (pos 0) unit.months nanos in
      let above = some_nanos unit window has in
      let some : 0 < unsigned_abs unit.nanos = omega (arith, ints) in
      let e : unit.nanos ≡ pos (unsigned_abs unit.nanos) = omega (arith, ints) in
      let number : window_at unit t ≡ int_div_euclid t unit.nanos = rw has refl in
      rw number (started_nanos unit (unsigned_abs unit.nanos) some t k has e)
]

-- the window that holds a time has its number
pub number_is : (unit : Span) (t k : ℤ) → FitsSigned w64 t → IsWindow unit → Holds unit unit t k → k ≡ window_at unit t
number_is unit t k fits window holds =
    let stop = stop_next unit k window in
    let below = (started unit t fits window (k +ℤ pos 1)).0 (rw stop at holds.1) in
    elim (int_tells (window_at unit t) k) [
      | inl past ↦ let after = (started unit t fits window k).1 past in absurd (omega (arith, ints, holds.0))
      | inr from ↦ omega (arith, ints)
    ]

unit_holds : (unit : Span) → IsWindow unit → is_unit unit ≡ true
unit_holds unit window = grind (arith, ints, window)

unit_only : (unit : Span) → is_unit unit ≡ true → IsWindow unit
unit_only unit e = grind (arith, ints)

-- what the test of windows answers
pub unit_is : (unit : Span) (r : Bool) → (r ≡ true) ↔ IsWindow unit → is_unit unit ≡ r
unit_is unit true is = unit_holds unit (is.0 refl)
unit_is unit false is = elim (is_unit unit) as (λ b. is_unit unit ≡ b → b ≡ false) [
  | true ↦ λ e. sym (is.1 (unit_only unit e))
  | false ↦ λ e. refl
] refl

pub truncated-in : (unit : Span) (t start : ℤ) → is_unit unit ≡ true → start ≡ window_start unit (window_at unit t) → FitsSigned w64 start → truncated t unit ≡ Ok (Time start)
truncated-in unit t start window e fits = rw window (ap (λ z. time_from (moment z)) (sym e) ∙ ap time_from (moment_in start fits))

pub truncated-out : (unit : Span) (t start : ℤ) → is_unit unit ≡ true → start ≡ window_start unit (window_at unit t) → (FitsSigned w64 start → ⊥) → truncated t unit ≡ Err TimeRange
truncated-out unit t start window e out = rw window (ap (λ z. time_from (moment z)) (sym e) ∙ ap time_from (moment_out start out))

-- ---- integers of 64 bits

pub fits_test : (n : ℤ) → FitsSigned w64 n → in_64_bits n ≡ true
fits_test n fits = elim (in_64_bits n) as (λ b. (if b then Some n else None) ≡ Some n → b ≡ true) [
  | true ↦ λ e. refl
  | false ↦ λ e. absurd cc
] (moment_in n fits)

pub unfit_test : (n : ℤ) → (FitsSigned w64 n → ⊥) → in_64_bits n ≡ false
unfit_test n out = elim (in_64_bits n) as (λ b. (if b then Some n else None) ≡ None → b ≡ false) [
  | true ↦ λ e. absurd cc
  | false ↦ λ e. refl
] (moment_out n out)
