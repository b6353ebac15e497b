-- The value of a text is the time that it spells.
use Rattle.std.proofs.Common.{◌≡◌, ℕ, ◌+◌, ◌*◌, ◌^◌, ◌-◌, ◌<◌, ◌≤◌, ◌⊎◌, inl, inr, Bool, true, false, Option, Some, None, List, ℤ, pos, ◌+ℤ◌, ◌≤ℤ◌, unsigned_abs, FitsSigned, w64, refl, sym, ap, subst, ◌∙◌, if◌then◌else◌, arith}
use Rattle.std.specs.Prelude.{◌↔◌, ◌<ℤ◌, neg_ℤ, nat_le, ◌&&◌, int_le}
use Rattle.std.proofs.lemmas.Bool.Decides.{nat_tests}
use Rattle.jiff_core.proofs.SignedLemmas.{signed_arith}
use Rattle.jiff_core.proofs.DateLemmas.{epoch_day_range}
use Rattle.jiff_core.specs.Date.{epoch_day}
use Rattle.jiff_core.specs.declared.civil.date.Date.{Date as Civil}
use Rattle.jiff_fmt.proofs.Cases.{by_bool}
use Rattle.fx_time.specs.declared.read.Moment.{Moment}
use Rattle.fx_time.specs.Calendar.{Date, date_after, days_in_month}
use Rattle.fx_time.specs.Front.{◌>>=◌, moment_front}
use Rattle.fx_time.specs.Months.{first_day, month_of}
use Rattle.fx_time.specs.Spans.{moment}
use Rattle.fx_time.specs.Time.{IsTime}
use Rattle.fx_time.specs.Value.{is_date, day_number, days_to, date_of_moment, moment_at, time_value}
use Rattle.fx_time.proofs.CalendarLemmas.{IsDay, date_after-is, day_low, day_found, nonneg_abs}
use Rattle.fx_time.proofs.FrontLemmas.{some_back}
use Rattle.fx_time.proofs.MonthLemmas.{date_is}
use Rattle.fx_time.proofs.ReadLemmas.{year_read, no_moment, no_date, time_is}
use Rattle.fx_time.proofs.TestLemmas.{int_tells, moment_in, moment_out}

-- a test of four comparisons
tested : (d : Date) → 1 ≤ d.month → d.month ≤ 12 → 1 ≤ d.day → d.day ≤ days_in_month d.year d.month → is_date d ≡ true
tested d a b c e =
    let first : nat_le 1 d.month ≡ true = grind (arith, nat_tests) in
    let second : nat_le d.month 12 ≡ true = grind (arith, nat_tests) in
    let third : nat_le 1 d.day ≡ true = grind (arith, nat_tests) in
    let last : nat_le d.day (days_in_month d.year d.month) ≡ true = grind (arith, nat_tests) in
    rw (first, second, third, last) refl

both_true : (a b : Bool) → (a && b) ≡ true → (a ≡ true) × (b ≡ true)
both_true true b h = (refl, h)
both_true false b h = absurd cc

le_of : (a b : ℕ) → nat_le a b ≡ true → a ≤ b
le_of a b h = grind (arith, nat_tests)

if_some : {A : Type 0} (b : Bool) (x y : A) → (if b then Some x else None) ≡ Some y → (b ≡ true) × (x ≡ y)
if_some true x y h = (refl, some_back x y h)
if_some false x y h = absurd cc

-- the date to which counting comes is one of the calendar, and its number is the count
counted : (n : ℕ) (d : Date) → IsDay n d → days_to d ≡ Some n
counted n d h =
    let sum : (first_day (month_of d) +ℤ pos d.day +ℤ pos 719_527) ≡ pos n = omega (arith, signed_arith, date_is n d h) in
    let test = tested d h.month.0 h.month.1 h.day.0 h.day.1 in
    rw test (ap (λ z. Some (unsigned_abs z)) sum)

-- and counting comes to each date of the calendar up to the year 9999
reached : (d : Date) → d.year < 10_000 → is_date d ≡ true → (n : ℕ) × (date_after n ≡ d)
reached d small h =
    let first = both_true _ _ h in
    let second = both_true _ _ first.1 in
    let third = both_true _ _ second.1 in
    let here : Civil = record {
      year = pos d.year;
      month = d.month;
      day = d.day;
      year_in = (omega (arith, signed_arith), omega (arith, signed_arith));
      month_in = (le_of 1 d.month first.0, le_of d.month 12 second.0);
      day_in = (le_of 1 d.day third.0, le_of d.day (days_in_month d.year d.month) third.1);
    } in
    let low = day_low here d.year d.month d.day refl refl refl in
    let number = nonneg_abs (epoch_day here +ℤ pos 719_528) low in
    let range = epoch_day_range here in
    let n = unsigned_abs (epoch_day here +ℤ pos 719_528) in
    (n, day_found here d.year d.month d.day refl refl refl n (omega (arith, signed_arith)) (sym number))

pub days_to-is : (d : Date) (n : ℕ) → d.year < 10_000 → (date_after n ≡ d) ↔ (days_to d ≡ Some n)
days_to-is d n small = (
  λ e. counted n d (subst (λ x. IsDay n x) e (date_after-is n)),
  λ e.
      let is = if_some (is_date d) (day_number d) n e in
      let found = reached d small is.0 in
      let same = counted found.0 d (subst (λ x. IsDay found.0 x) found.1 (date_after-is found.0)) in
      let number = some_back found.0 n (sym same ∙ e) in
      subst (λ k. date_after k ≡ d) number found.1,
)

within : (z t : ℤ) → (FitsSigned w64 t × (t ≡ z)) ↔ (moment z ≡ Some t)
within z t = (
  λ h. subst (λ x. moment x ≡ Some t) h.1 (moment_in t h.0),
  λ e. elim (int_tells z (neg_ℤ (pos (2 ^ 63)))) [
    | inl below ↦ let none = moment_out z (λ f. omega (arith, signed_arith, f)) in absurd cc
    | inr low ↦ elim (int_tells (pos (2 ^ 63 - 1)) z) [
      | inl above ↦ let none = moment_out z (λ f. omega (arith, signed_arith, f)) in absurd cc
      | inr high ↦
          let fits : FitsSigned w64 z = omega (arith, signed_arith) in
          let same = some_back z t (sym (moment_in z fits) ∙ e) in
          (subst (λ x. FitsSigned w64 x) same fits, sym same)
    ]
  ],
)

module _ (text : List ℕ) (t : ℤ) where
  of_date : (m : Moment) → moment_front text ≡ Some m → (o : Option ℕ) → days_to (date_of_moment m) ≡ o
      → IsTime text t ↔ ((o >>= λ n. moment (moment_at n m)) ≡ Some t)
  of_date m e None f =
      let apart : (n : ℕ) → date_after n ≡ date_of_moment m → ⊥ = λ n g. let some = sym f ∙ (days_to-is (date_of_moment m) n (year_read text m e)).0 g in cc in
      (λ h. absurd (no_date text t m e apart h), λ h. absurd cc)
  of_date m e (Some n) f =
      let small = year_read text m e in
      let date = (days_to-is (date_of_moment m) n small).1 f in
      let only : (k : ℕ) → date_after k ≡ date_of_moment m → k ≡ n = λ k g. some_back k n (sym ((days_to-is (date_of_moment m) k small).0 g) ∙ f) in
      let is = time_is text t m n e date only in
      let value = within (moment_at n m) t in
      (λ h. value.0 (is.0 h), λ h. is.1 (value.1 h))

  of_moment : (o : Option Moment) → moment_front text ≡ o
      → IsTime text t ↔ ((o >>= λ m. days_to (date_of_moment m) >>= λ n. moment (moment_at n m)) ≡ Some t)
  of_moment None e = (λ h. absurd (no_moment text t e h), λ h. absurd cc)
  of_moment (Some m) e = of_date m e (days_to (date_of_moment m)) refl

  -- a text is a time exactly where its value is the time
  pub time_value-is : IsTime text t ↔ (time_value text ≡ Some t)
  time_value-is = of_moment (moment_front text) refl

same_option : {A : Type 0} (o p : Option A) → ((x : A) → (o ≡ Some x) → p ≡ Some x) → ((x : A) → (p ≡ Some x) → o ≡ Some x) → o ≡ p
same_option None None f g = refl
same_option (Some x) p f g = sym (f x refl)
same_option None (Some y) f g = g y refl

-- what is a text's time exactly where the text spells it is the text's value
pub value_told : (text : List ℕ) (o : Option ℤ) → ((t : ℤ) → IsTime text t ↔ (o ≡ Some t)) → o ≡ time_value text
value_told text o told = same_option o (time_value text) (λ t e. (time_value-is text t).0 ((told t).1 e)) (λ t e. (told t).0 ((time_value-is text t).1 e))
