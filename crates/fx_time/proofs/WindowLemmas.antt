-- Quotients that round down, and the least number past one.
use Rattle.std.proofs.Common.{◌≡◌, ℕ, suc, ◌+◌, ◌*◌, ◌<◌, ◌≤◌, inl, inr, ℤ, pos, ◌+ℤ◌, ◌*ℤ◌, ◌≤ℤ◌, true, false, FitsSigned, w64, unsigned_abs, ◌^◌, ◌-◌, refl, ap, arith}
use Rattle.std.specs.Prelude.{◌<ℤ◌, ◌-ℤ◌, ◌↔◌, neg_ℤ}
use Rattle.std.specs.Int.{int_div_euclid}
use Rattle.jiff_core.proofs.SignedLemmas.{signed_arith, one_part, int_div_euclid-parts}
use borrow.Author.Differences.{up, down}
use Rattle.std.proofs.lemmas.Bool.Decides.{leb_tells}
use Rattle.std.proofs.Math.Nat.{mul-le-mul_right}
use Rattle.fx_time.specs.Calendar.{nanos_of_day}
use Rattle.fx_time.specs.Months.{HoldsDay, first_day, month_start}
use Rattle.fx_time.specs.Windows.{IsWindow, IsWindowPair, has_months, window_start, window_stop, Holds, IsLeast, IsNear}
use Rattle.fx_time.specs.declared.span.Span.{Span}
use Rattle.fx_time.proofs.TestLemmas.{int_tells, lt_holds, lt_fails}
use Rattle.fx_time.proofs.MonthLemmas.{begins_after, first_day-le, first_day-march}

times : (a b c d n : ℕ) → a + b ≤ c + d → a * n + b * n ≤ c * n + d * n
times a b c d n h =
    let p = mul-le-mul_right n h in
    let left : (a + b) * n ≡ a * n + b * n = omega arith in
    let right : (c + d) * n ≡ c * n + d * n = omega arith in
    omega arith

below_times : (a b c d n : ℕ) → a * n + b * n < c * n + d * n → a + b < c + d
below_times a b c d n h = elim (leb_tells (suc (a + b)) (c + d)) [
  | inl below ↦ below.1
  | inr above ↦ let p = times c d a b n (omega (arith, above.1)) in absurd (omega arith)
]

after_times : (a b c d n : ℕ) → a + b < c + d → a * n + b * n + n ≤ c * n + d * n
after_times a b c d n h =
    let p = times (suc a) b c d n (omega arith) in
    let step : suc a * n ≡ a * n + n = omega arith in
    omega arith

-- a multiple lies past a number exactly where its factor lies past the quotient
pub past_quotient : (a k : ℤ) (n : ℕ) → 0 < n → (a <ℤ (k *ℤ pos n)) ↔ (int_div_euclid a (pos n) <ℤ k)
past_quotient a k n some =
    let q = int_div_euclid a (pos n) in
    let parts = int_div_euclid-parts a n some in (
      λ below. let past = below_times (up q) (down k) (up k) (down q) n (omega (arith, signed_arith)) in omega (arith, signed_arith),
      λ past. let far = after_times (up q) (down k) (up k) (down q) n (omega (arith, signed_arith)) in omega (arith, signed_arith),
    )

-- the number after q is the least one past q
pub least_after : (P : ℤ → Type 0) (q : ℤ) → ((k : ℤ) → P k ↔ (q <ℤ k)) → IsLeast P (q +ℤ pos 1)
least_after P q is = ((is (q +ℤ pos 1)).1 (omega (arith, signed_arith)), λ k p. let past = (is k).0 p in omega (arith, signed_arith))

chain : {A B C : Type 0} → A ↔ B → B ↔ C → A ↔ C
chain f g = (λ a. g.0 (f.0 a), λ c. f.1 (g.1 c))

-- a month starts after a time exactly where it comes after the month that holds the time
pub starts_after : (t month k : ℤ) → HoldsDay month (int_div_euclid t (pos nanos_of_day)) → (t <ℤ month_start k) ↔ (month <ℤ k)
starts_after t month k h =
    chain (past_quotient t (first_day k) nanos_of_day (omega arith)) (begins_after (int_div_euclid t (pos nanos_of_day)) month k h)

-- ---- the last window that started at a time or before, or stopped

module _ (every : Span) (n : ℕ) (some : 0 < n) where
  pub started_months : (t month k : ℤ) → has_months every ≡ true → every.months ≡ pos n → ((j : ℤ) → (t <ℤ month_start j) ↔ (month <ℤ j))
      → (t <ℤ window_start every k) ↔ (int_div_euclid month every.months <ℤ k)
  started_months t month k has e after = rw (has, e) (chain (after (k *ℤ pos n)) (past_quotient month k n some))

  pub started_nanos : (t k : ℤ) → has_months every ≡ false → every.nanos ≡ pos n
      → (t <ℤ window_start every k) ↔ (int_div_euclid t every.nanos <ℤ k)
  started_nanos t k has e = rw (has, e) (past_quotient t k n some)

  pub stopped_months : (period : Span) (t month k : ℤ) → has_months period ≡ true → every.months ≡ pos n → ((j : ℤ) → (t <ℤ month_start j) ↔ (month <ℤ j))
      → (t <ℤ window_stop every period k) ↔ (int_div_euclid (month -ℤ period.months) every.months <ℤ k)
  stopped_months period t month k has e after =
      let past = past_quotient (month -ℤ period.months) k n some in
      let moved : (month <ℤ (k *ℤ pos n +ℤ period.months)) ↔ ((month -ℤ period.months) <ℤ (k *ℤ pos n)) = (λ h. omega (arith, signed_arith), λ h. omega (arith, signed_arith)) in
      rw (has, e) (chain (after (k *ℤ pos n +ℤ period.months)) (chain moved past))

pub stopped_nanos : (every period : Span) (t q k : ℤ) → has_months period ≡ false → ((t -ℤ period.nanos) <ℤ window_start every k) ↔ (q <ℤ k)
    → (t <ℤ window_stop every period k) ↔ (q <ℤ k)
stopped_nanos every period t q k has before = rw has (chain (λ h. omega (arith, signed_arith), λ h. omega (arith, signed_arith)) before)

-- the windows between the two numbers are those that hold the time
pub held : (t q s start stop k : ℤ) → (t <ℤ stop) ↔ (q <ℤ k) → (t <ℤ start) ↔ (s <ℤ k)
    → (((q +ℤ pos 1) ≤ℤ k) × (k <ℤ (s +ℤ pos 1))) ↔ ((start ≤ℤ t) × (t <ℤ stop))
held t q s start stop k stops starts = (
  λ h. (
    elim (int_tells t start) [
      | inl after ↦ let past = starts.0 after in absurd (omega (arith, signed_arith, h))
      | inr before ↦ before
    ],
    stops.1 (omega (arith, signed_arith, h)),
  ),
  λ h. (
    let past = stops.0 h.1 in omega (arith, signed_arith),
    elim (int_tells s k) [
      | inl after ↦ let past = starts.1 after in absurd (omega (arith, signed_arith, h))
      | inr before ↦ omega (arith, signed_arith)
    ],
  ),
)

-- ---- windows one after another

next_times : (k : ℤ) (n : ℕ) → ((k *ℤ pos n) +ℤ pos n) ≡ ((k +ℤ pos 1) *ℤ pos n)
next_times k n =
    let same : up (k +ℤ pos 1) + down k ≡ down (k +ℤ pos 1) + suc (up k) = omega (arith, signed_arith) in
    let low = times (up (k +ℤ pos 1)) (down k) (down (k +ℤ pos 1)) (suc (up k)) n (omega arith) in
    let high = times (down (k +ℤ pos 1)) (suc (up k)) (up (k +ℤ pos 1)) (down k) n (omega arith) in
    let more : suc (up k) * n ≡ up k * n + n = omega arith in
    omega (arith, signed_arith)

-- where each window is as long as its distance from the next, it stops where the next starts
pub stop_next : (every : Span) (k : ℤ) → IsWindow every → window_stop every every k ≡ window_start every (k +ℤ pos 1)
stop_next every k (inl nanos) =
    let n = unsigned_abs every.nanos in
    let e : every.nanos ≡ pos n = omega (arith, signed_arith, one_part every.nanos, nanos) in
    rw (lt_fails (pos 0) every.months (omega (arith, signed_arith, nanos)), e) (next_times k n)
stop_next every k (inr months) =
    let n = unsigned_abs every.months in
    let e : every.months ≡ pos n = omega (arith, signed_arith, one_part every.months, months) in
    rw (lt_holds (pos 0) every.months (omega (arith, signed_arith, months)), e) (ap month_start (next_times k n))

pub some_nanos : (span : Span) → IsWindow span → has_months span ≡ false → pos 0 <ℤ span.nanos
some_nanos span (inl nanos) has = nanos.1
some_nanos span (inr months) has = absurd (omega (arith, signed_arith, months.1))

-- the last window that started at a time or before holds it
pub window_is : (every : Span) (t k : ℤ) → IsWindow every → ((j : ℤ) → (t <ℤ window_start every j) ↔ (k <ℤ j)) → Holds every every t k
window_is every t k window last = (
  elim (int_tells t (window_start every k)) [
    | inl after ↦ let past = (last k).0 after in absurd (omega (arith, signed_arith))
    | inr before ↦ before
  ],
  rw (stop_next every k window) ((last (k +ℤ pos 1)).1 (omega (arith, signed_arith))),
)

-- a window that holds a time in 64 bits is near one
pub holds_near : (every period : Span) (t k : ℤ) → FitsSigned w64 t → Holds every period t k → IsNear every period k
holds_near every period t k fits holds = (omega (arith, signed_arith, holds), omega (arith, signed_arith, holds))

-- ---- the numbers of windows near a time in 64 bits

-- the starts of the years 2270 and 1370
first_late : first_day (pos 3600) ≡ pos 109_573
first_late = let e = first_day-march (pos 3600) 147_238 refl in omega (arith, signed_arith)

first_far : first_day (neg_ℤ (pos 7200)) ≡ neg_ℤ (pos 219_145)
first_far = let e = first_day-march (neg_ℤ (pos 7200)) 136_438 refl in omega (arith, signed_arith)

pub starts_below : (k : ℤ) → month_start k ≤ℤ pos (2 ^ 63 - 1) → k <ℤ pos 3600
starts_below k h = elim (int_tells k (pos 3600)) [
  | inl below ↦ below
  | inr above ↦ let up = first_day-le (pos 3600) k above in let late = first_late in absurd (omega (arith, signed_arith))
]

pub starts_above : (k : ℤ) → neg_ℤ (pos (2 ^ 64)) <ℤ month_start k → neg_ℤ (pos 7200) ≤ℤ k
starts_above k h = elim (int_tells k (neg_ℤ (pos 7200))) [
  | inl below ↦ let up = first_day-le k (neg_ℤ (pos 7200)) (omega (arith, signed_arith)) in let far = first_far in absurd (omega (arith, signed_arith))
  | inr above ↦ above
]

most : (span : Span) → IsWindow span → span.months ≤ℤ pos 12_000
most span (inl nanos) = omega (arith, signed_arith, nanos)
most span (inr months) = months.2

-- a window near a time in 64 bits that starts with a month starts with one of these
pub near_month : (every period : Span) (k : ℤ) → IsWindow period → has_months every ≡ true → FitsSigned w64 period.nanos → IsNear every period k
    → (neg_ℤ (pos 20_000) ≤ℤ (k *ℤ every.months)) × ((k *ℤ every.months) ≤ℤ pos 20_000)
near_month every period k window has fits near = elim (int_tells (pos 0) period.months) [
  | inl months ↦
      let start = starts_below (k *ℤ every.months) (rw has at near.1) in
      let stop : neg_ℤ (pos (2 ^ 63)) <ℤ month_start (k *ℤ every.months +ℤ period.months) = rw (lt_holds (pos 0) period.months months) at near.0 in
      let above = starts_above (k *ℤ every.months +ℤ period.months) (omega (arith, signed_arith)) in
      (omega (arith, signed_arith, most period window), omega (arith, signed_arith))
  | inr nanos ↦
      let start = starts_below (k *ℤ every.months) (rw has at near.1) in
      let stop : neg_ℤ (pos (2 ^ 63)) <ℤ (month_start (k *ℤ every.months) +ℤ period.nanos) = rw (lt_fails (pos 0) period.months nanos, has) at near.0 in
      let above = starts_above (k *ℤ every.months) (omega (arith, signed_arith)) in
      (omega (arith, signed_arith), omega (arith, signed_arith))
]

-- and one that starts with a number of nanoseconds lies near them whole
pub near_nanos : (every period : Span) (k : ℤ) → IsWindowPair every period → has_months every ≡ false → IsNear every period k
    → (has_months period ≡ false) × (neg_ℤ (pos (2 ^ 63)) <ℤ (k *ℤ every.nanos +ℤ period.nanos)) × ((k *ℤ every.nanos) ≤ℤ pos (2 ^ 63 - 1))
near_nanos every period k pair has near =
    let none : has_months period ≡ false = elim (int_tells (pos 0) period.months) [
      | inl months ↦ let some = pair.2 months in absurd (omega (arith, signed_arith))
      | inr nanos ↦ lt_fails (pos 0) period.months nanos
    ] in
    (none, rw (none, has) at near.0, rw has at near.1)
