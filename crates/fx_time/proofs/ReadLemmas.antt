-- The parts that are read off a text are those of the time that it spells.
use Rattle.std.proofs.Common.{◌≡◌, ℕ, zero, suc, ◌+◌, ◌-◌, ◌*◌, ◌/◌, ◌%◌, ◌<◌, ◌≤◌, ◌==◌, ◌⊎◌, inl, inr, Bool, true, false, List, [], ◌∷◌, ◌++◌, length, Some, None, ℤ, pos, neg_ℤ, ◌-ℤ◌, ◌≤ℤ◌, FitsSigned, w64, refl, sym, ap, if◌then◌else◌, ◌^◌, ◌↔◌, subst, ◌∙◌, arith}
use Rattle.std.proofs.lemmas.Bool.Decides.{nat_tests}
use Rattle.std.proofs.Common.{append-nil}
use Rattle.std.proofs.Math.Nat.{mul-le-mul_right}
use Rattle.std.specs.Char.{is_ascii_digit}
use Rattle.std.specs.Str.{all_ascii_digits}
use Rattle.jiff_core.specs.Sign.{signed}
use Rattle.jiff_core.proofs.SignedLemmas.{signed_arith}
use Rattle.jiff_core.proofs.CalendarLemmas.{days_in_month_bounds}
use Rattle.jiff_fmt.specs.Reader.{fraction_value}
use Rattle.jiff_fmt.proofs.ReaderLemmas.{tenth, ten_pow-pos}
use Rattle.jiff_fmt.proofs.Cases.{by_bool}
use Rattle.fx_time.specs.declared.read.Moment.{Moment}
use Rattle.fx_time.specs.Calendar.{Date, date_after, clock_on, nanos_of_day}
use Rattle.fx_time.specs.Front.{date_front, clock_front, fraction_front, zone_front, moment_front, clock_after, midnight}
use Rattle.fx_time.specs.Value.{date_of_moment, moment_at}
use Rattle.fx_time.specs.Time.{date_text, seconds_text, fraction_text, zone_text, zone_nanos, IsZone, Zone, Utc, Ahead, Behind, instant, IsFraction, IsMidnight, IsMoment, IsTime}
use Rattle.fx_time.proofs.CalendarLemmas.{date_after-is, year_small}
use Rattle.fx_time.proofs.FrontLemmas.{then_back, some_back, date_of, date_back, clock_back, clock_digits, fraction_back, zone_back, date_is, clock_is, fraction_is, zone_is, zone_stops}

-- the whole text, whether it is empty decides

ended_back : {A : Type 0} (rest : List ℕ) (a b : A) → (if length rest == 0 then Some a else None) ≡ Some b → (rest ≡ []) × (a ≡ b)
ended_back [] a b h = (refl, some_back a b h)
ended_back (c ∷ rest) a b h =
    let more : (length (c ∷ rest) == 0) ≡ false = grind (arith, nat_tests) in
    let e = rw more at h in
    absurd cc

no_rest : (rest : List ℕ) → (length rest == 0) ≡ true → rest ≡ []
no_rest [] h = refl
no_rest (c ∷ rest) h =
    let more : (length (c ∷ rest) == 0) ≡ false = grind (arith, nat_tests) in
    absurd cc

seconds_spelled : (d : Date) (nanos : ℕ) → seconds_text (clock_on d nanos) ≡ date_text d ++ clock_digits (nanos / 1_000_000_000)
seconds_spelled d nanos =
    let hour : nanos / 3_600_000_000_000 ≡ nanos / 1_000_000_000 / 3600 = omega arith in
    let minute : nanos / 60_000_000_000 % 60 ≡ nanos / 1_000_000_000 / 60 % 60 = omega arith in
    rw (hour, minute)

fraction_value-lt : (k : ℕ) (digits : List ℕ) → all_ascii_digits digits ≡ true → fraction_value k digits < 10 ^ k
unfolding fraction_value
fraction_value-lt zero digits h = omega arith
fraction_value-lt (suc k) [] h = ten_pow-pos (suc k)
fraction_value-lt (suc k) (d ∷ ds) h = by_bool (is_ascii_digit d)
    (λ yes.
    let digit : d - 48 ≤ 9 = grind (arith, nat_tests, yes) in
    let worth : (d - 48) * 10 ^ k ≤ 9 * 10 ^ k = mul-le-mul_right (10 ^ k) digit in
    let below = fraction_value-lt k ds (rw yes at h) in
    omega (arith, tenth (suc k) k refl))
    (λ no. let e = rw no at h in absurd cc)

-- what stands after a date, with the parts that a moment has of it
record IsAfter (d : ℕ × ℕ × ℕ) (text : List ℕ) (m : Moment) : Type 0 where
  pub date : date_of_moment m ≡ date_of d
  pub digits : List ℕ
  pub zone : Zone
  pub nanos_in : m.nanos < nanos_of_day
  pub digits_in : IsFraction digits (m.nanos % 1_000_000_000)
  pub zone_in : IsZone zone
  pub spelled : text ≡ clock_digits (m.nanos / 1_000_000_000) ++ fraction_text digits ++ zone_text zone
  pub offset : signed m.behind (m.minutes * 60_000_000_000) ≡ zone_nanos zone

clock_after_back : (d : ℕ × ℕ × ℕ) (text : List ℕ) (m : Moment) → clock_after d text ≡ Some m → IsAfter d text m
unfolding clock_after
clock_after_back d text m h =
    then_back (clock_front text) _ m h (λ s es h₁.
    then_back (fraction_front s.1) _ m h₁ (λ f ef h₂.
    then_back (zone_front f.1) _ m h₂ (λ z ez h₃.
    let clock = clock_back text s es in
    let part = fraction_back s.1 f ef in
    let zone = zone_back f.1 z ez in
    let end = ended_back z.1 _ m h₃ in
    let small : f.0 < 1_000_000_000 = omega (arith, part.1.2, fraction_value-lt 9 part.0 part.1.0) in
    let whole : (s.0 * 1_000_000_000 + f.0) / 1_000_000_000 ≡ s.0 = omega arith in
    let left : (s.0 * 1_000_000_000 + f.0) % 1_000_000_000 ≡ f.0 = omega arith in
    let after : f.1 ≡ zone_text zone.0 = zone.2 ∙ ap (λ r. zone_text zone.0 ++ r) end.0 ∙ append-nil (zone_text zone.0) in
    subst (λ q. IsAfter d text q) end.1
    (record {
      date = refl;
      digits = part.0;
      zone = zone.0;
      nanos_in = omega arith;
      digits_in = (part.1.0, part.1.1, part.1.2 ∙ sym left);
      zone_in = zone.1;
      spelled = rw whole (clock.1 ∙ ap (λ r. clock_digits s.0 ++ r) (part.2 ∙ ap (λ r. fraction_text part.0 ++ r) after));
      offset = zone.3;
    }))))

-- a moment that was read is a time
pub moment_means : (text : List ℕ) (m : Moment) (n : ℕ) (t : ℤ) → moment_front text ≡ Some m → date_after n ≡ date_of_moment m
    → t ≡ moment_at n m → IsMidnight text t ⊎ IsMoment text t
unfolding moment_front
moment_means text m n t h day value =
    then_back (date_front text) _ m h (λ d ed h₁.
    let date = date_back text d ed in
    by_bool (length d.1 == 0)
    (λ ended.
    let is = some_back _ m (rw ended at h₁) in
    let same : date_of d.0 ≡ date_after n = ap date_of_moment is ∙ sym day in
    let none : d.1 ≡ [] = no_rest d.1 ended in
    inl (record {
      days = n;
      spelled = date.3 ∙ ap (λ r. date_text (date_of d.0) ++ r) none ∙ ap date_text same;
      value = value ∙ ap (moment_at n) (sym is) ∙ omega (arith, signed_arith);
    }))
    (λ more.
    let after = clock_after_back d.0 d.1 m (rw more at h₁) in
    let same : date_of d.0 ≡ date_after n = sym after.date ∙ sym day in
    inr (record {
      days = n;
      nanos = m.nanos;
      digits = after.digits;
      zone = after.zone;
      nanos_in = after.nanos_in;
      digits_in = after.digits_in;
      zone_in = after.zone_in;
      spelled = date.3 ∙ ap (λ r. date_text (date_of d.0) ++ r) after.spelled ∙ ap (λ x. date_text x ++ clock_digits (m.nanos / 1_000_000_000) ++ fraction_text after.digits ++ zone_text after.zone) same
          ∙ ap (λ x. x ++ fraction_text after.digits ++ zone_text after.zone) (sym (seconds_spelled (date_after n) m.nanos));
      value = value ∙ ap (λ o. instant n m.nanos -ℤ o) after.offset;
    })))

-- a year that was read has four digits
pub year_read : (text : List ℕ) (m : Moment) → moment_front text ≡ Some m → m.year < 10_000
unfolding moment_front
year_read text m h =
    then_back (date_front text) _ m h (λ d ed h₁.
    let date = date_back text d ed in
    by_bool (length d.1 == 0)
    (λ ended.
    let is = some_back _ m (rw ended at h₁) in
    subst (λ q. q.year < 10_000) is date.0)
    (λ more.
    let after = clock_after_back d.0 d.1 m (rw more at h₁) in
    subst (λ q. q.year < 10_000) (sym after.date) date.0))

zone_bound : (z : Zone) → IsZone z → (neg_ℤ (pos 86_400_000_000_000) ≤ℤ zone_nanos z) × (zone_nanos z ≤ℤ pos 86_400_000_000_000)
zone_bound Utc h = (omega (arith, signed_arith), omega (arith, signed_arith))
zone_bound (Ahead hours minutes) h = (omega (arith, signed_arith), omega (arith, signed_arith))
zone_bound (Behind hours minutes) h = (omega (arith, signed_arith), omega (arith, signed_arith))

-- the date so many days on has four digits of a year, and two of month and day
date_small : (n : ℕ) → n < 3_652_425 → ((date_after n).year < 10_000) × ((date_after n).month < 100) × ((date_after n).day < 100)
date_small n h =
    let is = date_after-is n in
    let d = date_after n in
    let low = year_small d.year d.month d.day n is.day.0 is.count h in
    let long = days_in_month_bounds (pos d.year) d.month in
    (omega arith, omega (arith, is.month.1), omega (arith, is.day.1))

-- a moment that was read off the text, whose date is that many days on, and which means t
abbrev pub IsRead : List ℕ → ℤ → Type 0
IsRead text t = (m : Moment) × (n : ℕ) × (moment_front text ≡ Some m) × (date_after n ≡ date_of_moment m) × (t ≡ moment_at n m)

midnight_reads : (text : List ℕ) (t : ℤ) → FitsSigned w64 t → IsMidnight text t → IsRead text t
unfolding moment_front
midnight_reads text t f h =
    let n = h.days in
    let d = date_after n in
    let value = h.value in
    let small = date_small n (omega (arith, signed_arith, f)) in
    (midnight (d.year, d.month, d.day), n, rw (h.spelled, date_is d [] small.0 small.1 small.2) refl, refl, value ∙ omega (arith, signed_arith))

after_is : (d : ℕ × ℕ × ℕ) (nanos : ℕ) (digits : List ℕ) (zone : Zone) (behind : Bool) (minutes : ℕ)
    → nanos < nanos_of_day → IsFraction digits (nanos % 1_000_000_000) → zone_front (zone_text zone) ≡ Some ((behind, minutes), [])
    → clock_after d (clock_digits (nanos / 1_000_000_000) ++ fraction_text digits ++ zone_text zone)
    ≡ Some (record { year = d.0; month = d.1; day = d.2; nanos = nanos; behind = behind; minutes = minutes })
unfolding clock_after
after_is d nanos digits zone behind minutes small part zoned =
    let clock = clock_is (nanos / 1_000_000_000) (fraction_text digits ++ zone_text zone) (omega arith) in
    let sum : nanos / 1_000_000_000 * 1_000_000_000 + nanos % 1_000_000_000 ≡ nanos = omega arith in
    rw (clock, fraction_is digits (zone_text zone) (nanos % 1_000_000_000) part (zone_stops zone), zoned, sum) refl

moment_reads : (text : List ℕ) (t : ℤ) → FitsSigned w64 t → IsMoment text t → IsRead text t
unfolding moment_front
moment_reads text t f h =
    let n = h.days in
    let d = date_after n in
    let value = h.value in
    let near = zone_bound h.zone h.zone_in in
    let small = date_small n (omega (arith, signed_arith, f, h.nanos_in)) in
    let z = zone_is h.zone h.zone_in in
    let rest : List ℕ = clock_digits (h.nanos / 1_000_000_000) ++ fraction_text h.digits ++ zone_text h.zone in
    let more : (length rest == 0) ≡ false = grind (arith, nat_tests) in
    let spelled : text ≡ date_text d ++ rest = h.spelled ∙ ap (λ x. x ++ fraction_text h.digits ++ zone_text h.zone) (seconds_spelled d h.nanos) in
    let after = after_is (d.year, d.month, d.day) h.nanos h.digits h.zone z.0 z.1 h.nanos_in h.digits_in z.2 in (
      record { year = d.year; month = d.month; day = d.day; nanos = h.nanos; behind = z.0; minutes = z.1 },
      n,
      rw (spelled, date_is d rest small.0 small.1 small.2, more) after,
      refl,
      value ∙ ap (λ o. instant n h.nanos -ℤ o) (sym z.3),
    )

-- a time is read
pub time_reads : (text : List ℕ) (t : ℤ) → FitsSigned w64 t → IsMidnight text t ⊎ IsMoment text t → IsRead text t
time_reads text t f (inl h) = midnight_reads text t f h
time_reads text t f (inr h) = moment_reads text t f h

-- no time is spelled where no moment is read
pub no_moment : (text : List ℕ) (t : ℤ) → moment_front text ≡ None → IsTime text t → ⊥
no_moment text t none h =
    let read = time_reads text t h.0 h.1 in
    let some = sym none ∙ read.2 in
    cc

same_moment : (text : List ℕ) (m k : Moment) → moment_front text ≡ Some m → moment_front text ≡ Some k → k ≡ m
same_moment text m k a b = some_back k m (sym b ∙ a)

-- nor where the calendar has no such date
pub no_date : (text : List ℕ) (t : ℤ) (m : Moment) → moment_front text ≡ Some m → ((n : ℕ) → date_after n ≡ date_of_moment m → ⊥) → IsTime text t → ⊥
no_date text t m moment none h =
    let read = time_reads text t h.0 h.1 in
    none read.1 (read.3 ∙ ap date_of_moment (same_moment text m read.0 moment read.2))

-- and a moment of a date of the calendar is the one that the text spells
pub time_is : (text : List ℕ) (t : ℤ) (m : Moment) (n : ℕ) → moment_front text ≡ Some m → date_after n ≡ date_of_moment m
    → ((k : ℕ) → date_after k ≡ date_of_moment m → k ≡ n) → IsTime text t ↔ (FitsSigned w64 t × (t ≡ moment_at n m))
time_is text t m n moment date only = (
  λ h.
      let read = time_reads text t h.0 h.1 in
      let same = same_moment text m read.0 moment read.2 in
      let days = only read.1 (read.3 ∙ ap date_of_moment same) in
      (h.0, read.4 ∙ ap (λ k. moment_at k read.0) days ∙ ap (moment_at n) same),
  λ h. (h.0, moment_means text m n t moment date h.1),
)
