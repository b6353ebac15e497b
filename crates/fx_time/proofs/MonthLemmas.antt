-- The months one by one, and their days in closed form.
use Rattle.std.proofs.Common.{◌≡◌, ℕ, zero, suc, ◌+◌, ◌-◌, ◌*◌, ◌/◌, ◌%◌, ◌≤◌, ◌^◌, inl, inr, ℤ, pos, negsuc, ◌+ℤ◌, ◌≤ℤ◌, unsigned_abs, FitsSigned, w64, add-one, refl, sym, ap, ◌∙◌, arith}
use Rattle.std.specs.Prelude.{◌<ℤ◌, ◌↔◌, ◌-ℤ◌, neg_ℤ}
use Rattle.std.specs.Int.{int_div_euclid, int_rem_euclid, IsInRange}
use Rattle.std.proofs.lemmas.Bool.Decides.{nat_tests}
use Rattle.jiff_core.proofs.SignedLemmas.{signed_arith, one_part}
use Rattle.std.proofs.lemmas.Bool.Decides.{leb_tells}
use Rattle.jiff_core.specs.Calendar.{IsWithin}
use Rattle.jiff_core.specs.March as jiff
use Rattle.jiff_core.specs.March.{march_months}
use Rattle.jiff_core.proofs.MarchLemmas.{day_count-early, day_count-late}
use Rattle.fx_time.specs.Calendar.{Date, date_after, clock_of, nanos_of_day, days_in_month}
use Rattle.fx_time.proofs.PrintLemmas.{days, days_near}
use Rattle.fx_time.proofs.TestLemmas.{int_tells}
use Rattle.fx_time.proofs.CalendarLemmas.{IsDay, date_after-is}
use Rattle.fx_time.specs.Months.{year_of, month_days, days_after, days_before, first_day, month_of, HoldsDay}
use Rattle.fx_time.specs.March.{march_days}

less : (a b : ℕ) → neg_ℤ (pos a) ≡ neg_ℤ (pos (a + b)) +ℤ pos b
less a b = omega (arith, signed_arith)

pub month_days_bounds : (k : ℤ) → (28 ≤ month_days k) × (month_days k ≤ 31)
month_days_bounds k = grind arith

-- a month ends where the next one begins
pub first_day-next : (k : ℤ) → first_day (k +ℤ pos 1) ≡ first_day k +ℤ pos (month_days k)
unfolding days_after days_before
first_day-next (pos n) = ap (λ m. pos (days_after m)) (add-one n)
first_day-next (negsuc zero) = omega (arith, signed_arith)
first_day-next (negsuc (suc n)) =
    let e : negsuc (suc n) +ℤ pos 1 ≡ negsuc n = omega (arith, signed_arith) in
    ap first_day e ∙ less (days_before n + month_days (negsuc n)) (month_days (negsuc (suc n)))

-- the months of a year that begins in March
march_step : (n : ℕ) → march_days (suc n) ≡ march_days n + days_in_month ((n + 2) / 12 % 400) ((n + 2) % 12 + 1)
march_step n = grind (arith, nat_tests)

-- counted from March of the year -10000
pub month_days-march : (k : ℤ) (n : ℕ) → k +ℤ pos 143_638 ≡ pos n → month_days k ≡ days_in_month ((n + 2) / 12 % 400) ((n + 2) % 12 + 1)
month_days-march k n e =
    let year : unsigned_abs (int_rem_euclid (year_of k) (pos 400)) ≡ (n + 2) / 12 % 400 = omega (arith, signed_arith) in
    let month : unsigned_abs (int_rem_euclid k (pos 12)) ≡ (n + 2) % 12 = omega (arith, signed_arith) in
    rw (year, month) refl

pub march_days-next : (k : ℤ) (n : ℕ) → k +ℤ pos 143_638 ≡ pos n → march_days (suc n) ≡ march_days n + month_days k
march_days-next k n e = march_step n ∙ ap (λ m. march_days n + m) (sym (month_days-march k n e))

after_is : (n : ℕ) → march_days (n + 143_638) ≡ days_after n + 4_371_893
unfolding days_after
after_is zero = refl
after_is (suc n) =
    let h = after_is n in
    let step = march_days-next (pos n) (n + 143_638) (omega (arith, signed_arith)) in
    let e : suc n + 143_638 ≡ suc (n + 143_638) = omega arith in
    rw e (omega arith)

before_is : (n m : ℕ) → m + n ≡ 143_638 → march_days m + days_before n ≡ 4_371_893
unfolding days_before
before_is zero m e = let is : m ≡ 143_638 = omega arith in rw is refl
before_is (suc n) m e =
    let h = before_is n (suc m) (omega arith) in
    let step = march_days-next (negsuc n) m (omega (arith, signed_arith)) in
    omega arith

-- the day that begins a month, in closed form
pub first_day-march : (k : ℤ) (n : ℕ) → k +ℤ pos 143_638 ≡ pos n → first_day k +ℤ pos 4_371_893 ≡ pos (march_days n)
first_day-march (pos m) n e =
    let is : n ≡ m + 143_638 = omega (arith, signed_arith) in
    let h = after_is m in
    rw is (omega (arith, signed_arith))
first_day-march (negsuc m) n e =
    let h = before_is (suc m) n (omega (arith, signed_arith)) in
    omega (arith, signed_arith)

-- how far the closed form lies from a straight line
pub march_low : (n : ℕ) → 146_097 * n ≤ 4800 * march_days n + 10_308
march_low n = omega arith

pub march_high : (n : ℕ) → 4800 * march_days n ≤ 146_097 * n + 15_285
march_high n = omega arith

-- each month has a day
rise : (a : ℤ) (n : ℕ) → (first_day a +ℤ pos n) ≤ℤ first_day (a +ℤ pos n)
rise a zero = let e : a +ℤ pos 0 ≡ a = omega (arith, signed_arith) in rw e (omega (arith, signed_arith))
rise a (suc n) =
    let e : a +ℤ pos (suc n) ≡ (a +ℤ pos n) +ℤ pos 1 = omega (arith, signed_arith) in
    let h = rise a n in
    let next = first_day-next (a +ℤ pos n) in
    let some = month_days_bounds (a +ℤ pos n) in
    rw e (omega (arith, signed_arith))

pub first_day-le : (a b : ℤ) → a ≤ℤ b → first_day a ≤ℤ first_day b
first_day-le a b h =
    let n = unsigned_abs (b -ℤ a) in
    let e : a +ℤ pos n ≡ b = omega (arith, signed_arith, one_part (b -ℤ a)) in
    let up = rise a n in
    let is = ap first_day e in
    omega (arith, signed_arith)

pub first_day-lt : (a b : ℤ) → a <ℤ b → first_day a <ℤ first_day b
first_day-lt a b h =
    let next = first_day-next a in
    let some = month_days_bounds a in
    let up = first_day-le (a +ℤ pos 1) b (omega (arith, signed_arith)) in
    omega (arith, signed_arith)

-- a month begins after a day exactly where it comes after the month that holds the day
pub begins_after : (day month k : ℤ) → HoldsDay month day → (day <ℤ first_day k) ↔ (month <ℤ k)
begins_after day month k h = (
  λ below. elim (int_tells month k) [
    | inl lt ↦ lt
    | inr le ↦ let up = first_day-le k month le in absurd (omega (arith, signed_arith, h))
  ],
  λ lt. let up = first_day-le (month +ℤ pos 1) k (omega (arith, signed_arith)) in omega (arith, signed_arith, h),
)

-- one month alone holds a day
pub one_month : (day a b : ℤ) → HoldsDay a day → HoldsDay b day → a ≡ b
one_month day a b h k =
    let over = (begins_after day a (b +ℤ pos 1) h).0 k.1 in
    let under = (begins_after day b (a +ℤ pos 1) k).0 h.1 in
    omega (arith, signed_arith)

-- ---- the months of the calendar's dates

same_length : (y m : ℕ) → days_in_month (y % 400) m ≡ days_in_month y m
same_length y m = grind (arith, nat_tests)

pub month_days-date : (d : Date) → IsInRange 1 12 d.month → month_days (month_of d) ≡ days_in_month d.year d.month
month_days-date d in_range =
    let year : unsigned_abs (int_rem_euclid (year_of (month_of d)) (pos 400)) ≡ d.year % 400 = omega (arith, signed_arith, in_range) in
    let month : unsigned_abs (int_rem_euclid (month_of d) (pos 12)) + 1 ≡ d.month = omega (arith, signed_arith, in_range) in
    rw (year, month) (same_length d.year d.month)

late_march : (y m : ℕ) → 3 ≤ m → m ≤ 12 → march_days (y * 12 + m + 119_997) ≡ jiff.march_days (y + 10_000) + march_months m
late_march y m low high =
    let e : y * 12 + m + 119_997 ≡ (y + 10_000) * 12 + (m - 3) = omega arith in
    let year : ((y + 10_000) * 12 + (m - 3)) / 12 ≡ y + 10_000 = omega arith in
    let month : ((y + 10_000) * 12 + (m - 3)) % 12 ≡ m - 3 = omega arith in
    rw (e, year, month) (omega arith)

early_march : (y m : ℕ) → 1 ≤ m → m ≤ 2 → march_days (y * 12 + m + 119_997) ≡ jiff.march_days (y + 9999) + march_months (m + 12)
early_march y m low high =
    let e : y * 12 + m + 119_997 ≡ (y + 9999) * 12 + (m + 9) = omega arith in
    let year : ((y + 9999) * 12 + (m + 9)) / 12 ≡ y + 9999 = omega arith in
    let month : ((y + 9999) * 12 + (m + 9)) % 12 ≡ m + 9 = omega arith in
    rw (e, year, month) (omega arith)

pub date_is : (n : ℕ) (d : Date) → IsDay n d → (first_day (month_of d) +ℤ pos d.day) ≡ (pos n -ℤ pos 719_527)
date_is n d h =
    let count = h.count in
    let first = first_day-march (month_of d) (d.year * 12 + d.month + 119_997) (omega (arith, signed_arith)) in
    elim (leb_tells 3 d.month) [
      | inl late ↦
          let closed = day_count-late (pos d.year) (d.year + 10_000) d.month d.day (omega (arith, signed_arith)) late.1 h.month.1 h.day.0 in
          let same = late_march d.year d.month late.1 h.month.1 in
          omega (arith, signed_arith)
      | inr early ↦
          let closed = day_count-early (pos d.year) (d.year + 9999) d.month d.day (omega (arith, signed_arith)) h.month.0 (omega (arith, early.1)) h.day.0 in
          let same = early_march d.year d.month h.month.0 (omega (arith, early.1)) in
          omega (arith, signed_arith)
    ]

-- the date so many days after the year 0 lies in its month
pub date_first : (n : ℕ) → (first_day (month_of (date_after n)) +ℤ pos (date_after n).day) ≡ (pos n -ℤ pos 719_527)
date_first n = date_is n (date_after n) (date_after-is n)

-- ---- the month of a time

module _ (t : ℤ) (near : IsWithin (2 ^ 65) t) where
  -- the days from the first of the month to the day of the month
  pub day_near : (first_day (month_of (clock_of t).date) +ℤ pos (clock_of t).date.day) ≡ (int_div_euclid t (pos nanos_of_day) +ℤ pos 1)
  day_near =
      let day = days_near t near in
      let first = date_first (days t) in
      omega (arith, signed_arith)

  pub month_near : HoldsDay (month_of (clock_of t).date) (int_div_euclid t (pos nanos_of_day))
  month_near =
      let is = date_after-is (days t) in
      let place = day_near in
      let next = first_day-next (month_of (clock_of t).date) in
      let length = month_days-date (clock_of t).date is.month in
      let low = is.day.0 in
      let high : (clock_of t).date.day ≤ month_days (month_of (clock_of t).date) = rw length is.day.1 in
      (omega (arith, signed_arith), omega (arith, signed_arith))

-- the same for a time in 64 bits, which lies well within that bound

fits_near : (t : ℤ) → FitsSigned w64 t → IsWithin (2 ^ 65) t
fits_near t fits = (omega (arith, signed_arith), omega (arith, signed_arith))

pub clock_day : (t : ℤ) → FitsSigned w64 t → (first_day (month_of (clock_of t).date) +ℤ pos (clock_of t).date.day) ≡ (int_div_euclid t (pos nanos_of_day) +ℤ pos 1)
clock_day t fits = day_near t (fits_near t fits)

pub clock_month : (t : ℤ) → FitsSigned w64 t → HoldsDay (month_of (clock_of t).date) (int_div_euclid t (pos nanos_of_day))
clock_month t fits = month_near t (fits_near t fits)
