-- The date that counting day by day comes to is the one of that day number.
use Rattle.std.proofs.Common.{◌≡◌, ℕ, zero, suc, ◌+◌, ◌<◌, ◌≤◌, ℤ, pos, negsuc, ◌+ℤ◌, ◌≤ℤ◌, unsigned_abs, refl, sym, subst, ◌∙◌, inl, inr, arith, rules}
use Rattle.std.proofs.lemmas.Bool.Decides.{leb_tells}
use Rattle.std.specs.Int.{IsInRange}
use Rattle.jiff_core.specs.Calendar.{day_count, days_in_month, IsDate}
use Rattle.jiff_core.proofs.SignedLemmas.{signed_arith}
use Rattle.jiff_core.proofs.CalendarLemmas.{day_count-next_month, day_count-next_year, day_count-day, day_count-day_of_year, day_count-later_year, day_count-end, day_count-last_of_year, days_in_month_bounds, days_from_civil-day_count}
use Rattle.jiff_core.proofs.MarchLemmas.{day_count-early}
use Rattle.jiff_core.proofs.DateLemmas.{epoch_day_injective}
use Rattle.jiff_core.specs.declared.civil.date.Date.{Date as Civil}
use Rattle.jiff_core.specs.Date.{epoch_day}
use Rattle.fx_time.specs.Calendar.{Date, next_day, date_after}

-- the calendar has the date, and so many days lie between it and 1 January of the year 0
pub record IsDay (n : ℕ) (d : Date) : Type 0 where
  pub month : IsInRange 1 12 d.month
  pub day : IsInRange 1 (days_in_month (pos d.year) d.month) d.day
  pub count : day_count (pos d.year) d.month d.day ≡ n + 3_652_425

day_later : (n : ℕ) (d : Date) → IsDay n d → d.day < days_in_month (pos d.year) d.month → IsDay (suc n) (record { year = d.year; month = d.month; day = d.day + 1 })
day_later n d h more =
    let step = day_count-day (pos d.year) d.month d.day (d.day + 1) h.day.0 (omega arith) in
    let count = h.count in
    record { month = h.month; day = (omega arith, omega arith); count = omega arith }

month_later : (n : ℕ) (d : Date) → IsDay n d → days_in_month (pos d.year) d.month ≤ d.day → d.month < 12 → IsDay (suc n) (record { year = d.year; month = d.month + 1; day = 1 })
month_later n d h last more =
    let step = day_count-next_month (pos d.year) d.month h.month.0 in
    let day = day_count-day (pos d.year) d.month d.day 1 h.day.0 (omega arith) in
    let count = h.count in
    let same : d.day ≡ days_in_month (pos d.year) d.month = omega (arith, h.day.1) in
    let long = days_in_month_bounds (pos d.year) (d.month + 1) in
    record { month = (omega arith, omega arith); day = (omega arith, omega arith); count = omega arith }

year_later : (n : ℕ) (d : Date) → IsDay n d → days_in_month (pos d.year) d.month ≤ d.day → 12 ≤ d.month → IsDay (suc n) (record { year = d.year + 1; month = 1; day = 1 })
year_later n d h last end =
    let december : d.month ≡ 12 = omega (arith, h.month.1) in
    let step = day_count-next_year (pos d.year) (pos (d.year + 1)) (omega (arith, signed_arith)) (omega (arith, signed_arith)) in
    let day = day_count-day (pos d.year) 12 d.day 31 h.day.0 (omega arith) in
    let final = day_count-last_of_year (pos d.year) in
    let count = rw december at h.count in
    let same : d.day ≡ 31 = omega (arith, rw december at h.day.1, rw december at last) in
    record { month = (omega arith, omega arith); day = (omega arith, omega arith); count = omega arith }

next_is : (n : ℕ) (d : Date) → IsDay n d → IsDay (suc n) (next_day d)
unfolding next_day
next_is n d h = elim (leb_tells (suc d.day) (days_in_month (pos d.year) d.month)) [
  | inl more ↦ rw more.0 (day_later n d h more.1)
  | inr last ↦ rw last.0 (elim (leb_tells (suc d.month) 12) [
    | inl more ↦ rw more.0 (month_later n d h (omega (arith, last.1)) more.1)
    | inr end ↦ rw end.0 (year_later n d h (omega (arith, last.1)) (omega (arith, end.1)))
  ])
]

day_zero : day_count (pos 0) 1 1 ≡ 3_652_425
day_zero = day_count-early (pos 0) 9999 1 1 refl (omega arith) (omega arith) (omega arith)

pub date_after-is : (n : ℕ) → IsDay n (date_after n)
unfolding date_after
date_after-is zero = record { month = search rules; day = search rules; count = day_zero }
date_after-is (suc n) = next_is n (date_after n) (date_after-is n)

-- so few days end before the year 10,000
pub year_small : (y m d n : ℕ) → 1 ≤ d → day_count (pos y) m d ≡ n + 3_652_425 → n < 3_652_425 → y ≤ 9999
year_small y m d n first count small = elim (leb_tells y 9999) [
  | inl low ↦ low.1
  | inr high ↦
      let above = high.1 in
      let later = day_count-later_year (pos 9999) (pos y) (omega (arith, signed_arith)) (omega (arith, signed_arith)) in
      let next = day_count-next_year (pos 9999) (pos 10000) (omega (arith, signed_arith)) refl in
      let end = day_count-end in
      let place = day_count-day_of_year (pos y) m d first in
      absurd (omega arith)
]

-- the day number of a date of the library is the one to which counting comes
pub date_after-same : (n : ℕ) (d : Civil) → n < 3_652_425 → epoch_day d +ℤ pos 719_528 ≡ pos n
    → (d.year ≡ pos (date_after n).year) × (d.month ≡ (date_after n).month) × (d.day ≡ (date_after n).day)
date_after-same n d small e =
    let is = date_after-is n in
    let low = year_small (date_after n).year (date_after n).month (date_after n).day n is.day.0 is.count small in
    let here : Civil = record {
      year = pos (date_after n).year;
      month = (date_after n).month;
      day = (date_after n).day;
      year_in = (omega (arith, signed_arith), omega (arith, signed_arith));
      month_in = is.month;
      day_in = is.day;
    } in
    let count = is.count in
    epoch_day_injective d here (omega (arith, signed_arith, days_from_civil-day_count (pos (date_after n).year) (date_after n).month (date_after n).day))

pub nonneg_abs : (z : ℤ) → pos 0 ≤ℤ z → pos (unsigned_abs z) ≡ z
nonneg_abs (pos n) h = refl
nonneg_abs (negsuc n) h = absurd (omega (arith, signed_arith))

-- the day of a date of the year 0 or later is no less than the first of that year
count_low : (y m d : ℕ) → 1 ≤ d → 3_652_425 ≤ day_count (pos y) m d
count_low y m d first =
    let place = day_count-day_of_year (pos y) m d first in
    let zero = day_zero in
    elim (leb_tells 1 y) [
      | inl later ↦
          let above = later.1 in
          let more = day_count-later_year (pos 0) (pos y) (omega (arith, signed_arith)) (omega (arith, signed_arith)) in
          omega arith
      | inr none ↦
          let same : y ≡ 0 = omega (arith, none.1) in
          let here = rw same at place in
          rw same (omega arith)
    ]

module _ (d : Civil) (y m k : ℕ) (year : d.year ≡ pos y) (month : d.month ≡ m) (day : d.day ≡ k) where
  count_is : epoch_day d +ℤ pos 4_371_953 ≡ pos (day_count (pos y) m k)
  count_is =
      let count = days_from_civil-day_count d.year d.month d.day in
      let same : day_count d.year d.month d.day ≡ day_count (pos y) m k = rw (year, month, day) refl in
      omega (arith, signed_arith)

  -- its days since the year 0 are a number
  pub day_low : pos 0 ≤ℤ (epoch_day d +ℤ pos 719_528)
  day_low =
      let count = count_is in
      let low = count_low y m k (omega (arith, d.day_in.0)) in
      omega (arith, signed_arith)

  -- to which counting comes
  pub day_found : (n : ℕ) → n < 3_652_425 → epoch_day d +ℤ pos 719_528 ≡ pos n → date_after n ≡ record { year = y; month = m; day = k }
  day_found n small e =
      let same = date_after-same n d small e in
      let years : (date_after n).year ≡ y = omega (arith, signed_arith, same.0) in
      let months = sym same.1 ∙ month in
      let days = sym same.2 ∙ day in
      λ i. record { year = years i; month = months i; day = days i }

  -- and no other
  pub day_only : (n : ℕ) → date_after n ≡ record { year = y; month = m; day = k } → epoch_day d +ℤ pos 719_528 ≡ pos n
  day_only n e =
      let is = subst (λ x. IsDay n x) e (date_after-is n) in
      let here = is.count in
      let count = count_is in
      omega (arith, signed_arith)

-- a date to which counting comes is one of the library
pub is_date : (n y m k : ℕ) → y < 10_000 → date_after n ≡ record { year = y; month = m; day = k } → IsDate (pos y) (pos m) (pos k)
is_date n y m k small e =
    let is = subst (λ x. IsDay n x) e (date_after-is n) in
    let month = is.month in
    let day = is.day in
    ((omega (arith, signed_arith), omega (arith, signed_arith)), (omega (arith, signed_arith), omega (arith, signed_arith)), (omega (arith, signed_arith), omega (arith, signed_arith)))
