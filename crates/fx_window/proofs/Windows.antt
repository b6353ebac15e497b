-- Windows of time, one after another.
use Rattle.std.proofs.Common.{◌≡◌, inl, inr, ℕ, zero, suc, ℤ, pos, ◌+ℤ◌, ◌*ℤ◌, ◌≤ℤ◌, true, false, FitsSigned, w64, sym, ap, subst, ◌∙◌, arith, refl}
use Rattle.std.proofs.Math.IntN.{+ℤ_one, suc_ℤ-*ℤ, zero-*ℤ}
use Rattle.std.proofs.lemmas.Int.{ints}
use Rattle.std.specs.Prelude.{◌<ℤ◌, if◌then◌else◌}
use Rattle.std.specs.Int.{int_gap}
use Rattle.fx_time.specs.Months.{month_start, days_after}
use Rattle.fx_time.specs.Windows.{IsWindow, IsWindowPair, has_months, window_start, window_stop, IsLeast, IsNear}
use Rattle.fx_time.specs.declared.span.Span.{Span}
use Rattle.fx_time.proofs.MonthLemmas.{first_day-lt}
use Rattle.fx_time.proofs.TestLemmas.{int_tells, lt_holds, lt_fails}
use Rattle.fx_time.proofs.WindowLemmas.{stop_next}
use Rattle.fx_window.proofs.Numbers.{gap_is}

months_rise : (a b : ℤ) → a <ℤ b → month_start a <ℤ month_start b
months_rise a b h = let days = first_day-lt a b h in omega (arith, ints)

-- each window starts before the next
start_next : (every : Span) (k : ℤ) → IsWindow every → window_start every k <ℤ window_start every (k +ℤ pos 1)
start_next every k (inl nanos) =
    let none : has_months every ≡ false = lt_fails (pos 0) every.months (omega (arith, ints, nanos)) in
    let stop : window_stop every every k ≡ (window_start every k +ℤ every.nanos)
    = ap (λ b. if b then month_start (k *ℤ every.months +ℤ every.months) else window_start every k +ℤ every.nanos) none in
    subst (λ z. window_start every k <ℤ z) (sym stop ∙ stop_next every k (inl nanos)) (omega (arith, ints, nanos))
start_next every k (inr months) =
    let has : has_months every ≡ true = lt_holds (pos 0) every.months (omega (arith, ints, months)) in
    let start : window_start every k ≡ month_start (k *ℤ every.months)
    = ap (λ b. if b then month_start (k *ℤ every.months) else k *ℤ every.nanos) has in
    let stop : window_stop every every k ≡ month_start (k *ℤ every.months +ℤ every.months)
    = ap (λ b. if b then month_start (k *ℤ every.months +ℤ every.months) else window_start every k +ℤ every.nanos) has in
    let rise = months_rise (k *ℤ every.months) (k *ℤ every.months +ℤ every.months) (omega (arith, ints, months)) in
    subst (λ z. z <ℤ window_start every (k +ℤ pos 1)) (sym start)
    (subst (λ z. month_start (k *ℤ every.months) <ℤ z) (sym stop ∙ stop_next every k (inr months)) rise)

-- numbers that rise from each to the next rise
module _ (f : ℤ → ℤ) (next : (k : ℤ) → f k <ℤ f (k +ℤ pos 1)) where
  rise_far : (k : ℤ) (n : ℕ) → f k <ℤ f (k +ℤ pos (suc n))
  rise_far k zero = next k
  rise_far k (suc n) =
      let before = rise_far k n in
      let step = next (k +ℤ pos (suc n)) in
      let same : (k +ℤ pos (suc n) +ℤ pos 1) ≡ (k +ℤ pos (suc (suc n))) = omega (arith, ints) in
      subst (λ z. f k <ℤ f z) same (omega (arith, ints))

  rises : (a b : ℤ) → a <ℤ b → f a <ℤ f b
  rises a b h =
      let rest = gap_is (a +ℤ pos 1) b (omega (arith, ints)) in
      let same : (a +ℤ pos (suc (int_gap (a +ℤ pos 1) b))) ≡ b = omega (arith, ints) in
      subst (λ z. f a <ℤ f z) same (rise_far a (int_gap (a +ℤ pos 1) b))

  rises_or_is : (a b : ℤ) → a ≤ℤ b → f a ≤ℤ f b
  rises_or_is a b h = elim (int_tells a b) [
    | inl below ↦ let lt = rises a b below in omega (arith, ints)
    | inr above ↦ let same : a ≡ b = omega (arith, ints) in subst (λ z. f a ≤ℤ f z) same (omega (arith, ints))
  ]

module _ (every : Span) (window : IsWindow every) where
  pub starts_lt : (a b : ℤ) → a <ℤ b → window_start every a <ℤ window_start every b
  starts_lt = rises (window_start every) (λ k. start_next every k window)

  pub starts_le : (a b : ℤ) → a ≤ℤ b → window_start every a ≤ℤ window_start every b
  starts_le = rises_or_is (window_start every) (λ k. start_next every k window)

-- windows that lie some numbers apart start at least as far apart
pub start_grows : (every : Span) → IsWindow every → (k : ℤ) (n : ℕ) → (window_start every k +ℤ pos n) ≤ℤ window_start every (k +ℤ pos n)
start_grows every window k zero =
    let same : (k +ℤ pos 0) ≡ k = omega (arith, ints) in
    subst (λ z. (window_start every k +ℤ pos 0) ≤ℤ window_start every z) (sym same) (omega (arith, ints))
start_grows every window k (suc n) =
    let before = start_grows every window k n in
    let step = start_next every (k +ℤ pos n) window in
    let same : (k +ℤ pos n +ℤ pos 1) ≡ (k +ℤ pos (suc n)) = omega (arith, ints) in
    subst (λ z. (window_start every k +ℤ pos (suc n)) ≤ℤ window_start every z) same (omega (arith, ints))

month_zero : month_start (pos 0) ≡ pos 0
unfolding days_after
month_zero = refl

-- window 0 starts with 1970
pub start_of_zero : (every : Span) → window_start every (pos 0) ≡ pos 0
start_of_zero every =
    elim (has_months every) as (λ b. (if b then month_start (pos 0 *ℤ every.months) else pos 0 *ℤ every.nanos) ≡ pos 0) [
      | true ↦ ap month_start (zero-*ℤ every.months) ∙ month_zero
      | false ↦ zero-*ℤ every.nanos
    ]

-- each window stops before the next
stop_rises : (every period : Span) (k : ℤ) → IsWindowPair every period → window_stop every period k <ℤ window_stop every period (k +ℤ pos 1)
stop_rises every period k pair = elim (int_tells (pos 0) period.months) [
  | inl months ↦
      let has : has_months period ≡ true = lt_holds (pos 0) period.months months in
      let some : pos 0 <ℤ every.months = pair.2 months in
      let product : ((k +ℤ pos 1) *ℤ every.months) ≡ (k *ℤ every.months +ℤ every.months) = ap (λ z. z *ℤ every.months) (+ℤ_one k) ∙ suc_ℤ-*ℤ k every.months in
      let stop : (j : ℤ) → window_stop every period j ≡ month_start (j *ℤ every.months +ℤ period.months)
      = λ j. ap (λ b. if b then month_start (j *ℤ every.months +ℤ period.months) else window_start every j +ℤ period.nanos) has in
      let rise = months_rise (k *ℤ every.months +ℤ period.months) ((k +ℤ pos 1) *ℤ every.months +ℤ period.months) (omega (arith, ints)) in
      subst (λ z. z <ℤ window_stop every period (k +ℤ pos 1)) (sym (stop k)) (subst (λ z. month_start (k *ℤ every.months +ℤ period.months) <ℤ z) (sym (stop (k +ℤ pos 1))) rise)
  | inr nanos ↦
      let none : has_months period ≡ false = lt_fails (pos 0) period.months nanos in
      let stop : (j : ℤ) → window_stop every period j ≡ (window_start every j +ℤ period.nanos)
      = λ j. ap (λ b. if b then month_start (j *ℤ every.months +ℤ period.months) else window_start every j +ℤ period.nanos) none in
      let rise = start_next every k pair.0 in
      let here = stop k in
      let there = stop (k +ℤ pos 1) in
      omega (arith, ints)
]

module _ (every period : Span) (pair : IsWindowPair every period) where
  pub stops_lt : (a b : ℤ) → a <ℤ b → window_stop every period a <ℤ window_stop every period b
  stops_lt = rises (window_stop every period) (λ k. stop_rises every period k pair)

  pub stops_le : (a b : ℤ) → a ≤ℤ b → window_stop every period a ≤ℤ window_stop every period b
  stops_le = rises_or_is (window_stop every period) (λ k. stop_rises every period k pair)

  -- windows from the first that stops after one time to the last that starts at another or before come near times
  pub near_between : (low last first next k : ℤ) → FitsSigned w64 low → FitsSigned w64 last → IsLeast (λ j. low <ℤ window_stop every period j) first
      → IsLeast (λ j. last <ℤ window_start every j) next → first ≤ℤ k → k <ℤ next → IsNear every period k
  near_between low last first next k fits_low fits_last after starts from to =
      let up = stops_le first k from in
      let past = after.0 in
      let begun : window_start every k ≤ℤ last = elim (int_tells last (window_start every k)) [
        | inl over ↦ let least = starts.1 k over in absurd (omega (arith, ints))
        | inr under ↦ under
      ] in
      (omega (arith, ints), omega (arith, ints))
