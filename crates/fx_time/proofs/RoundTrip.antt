-- The text of an instant is a time, and its value is the instant.
use Rattle.std.proofs.Common.{◌≡◌, ℕ, zero, suc, ◌-◌, ◌%◌, ◌^◌, ◌<◌, ◌==◌, inr, true, false, List, [], ◌∷◌, length, None, ℤ, pos, ◌+ℤ◌, ◌-ℤ◌, ◌*ℤ◌, FitsSigned, w64, refl, sym, ap, ◌∙◌, arith, append-nil}
use Rattle.std.specs.Char.{is_ascii_digit}
use Rattle.std.specs.List.{prefix_len}
use Rattle.std.specs.Str.{all_ascii_digits}
use Rattle.std.specs.Int.{int_div_euclid, int_rem_euclid}
use Rattle.std.proofs.lemmas.Bool.Decides.{nat_tests}
use Rattle.jiff_core.proofs.SignedLemmas.{signed_arith, int_rem_euclid-parts, unsigned_abs-parts}
use Rattle.jiff_fmt.specs.Reader.{fraction_value}
use Rattle.jiff_fmt.specs.Text.{places, significant, trailing_zeros, fraction_part}
use Rattle.jiff_fmt.proofs.Cases.{by_bool}
use Rattle.jiff_fmt.proofs.ReaderLemmas.{fraction_value-nil}
use Rattle.jiff_fmt.proofs.TextLemmas.{places-read, trailing_zeros-le, trailing_zeros-mod, significant-not_zero}
use Rattle.fx_time.specs.Calendar.{nanos_of_day}
use Rattle.fx_time.specs.Time.{time_text, instant, fraction_text, IsFraction, IsTime, Utc}
use Rattle.fx_time.proofs.FrontLemmas.{dotted}
use Rattle.fx_time.proofs.PrintLemmas.{days, nanos, days_is}

all_counted : (ds : List ℕ) → prefix_len is_ascii_digit ds ≡ length ds → all_ascii_digits ds ≡ true
all_counted [] h = refl
all_counted (d ∷ ds) h = by_bool (is_ascii_digit d)
    (λ yes. let e = rw yes at h in rw yes (all_counted ds (omega (arith, e))))
    (λ no. let e = rw no at h in absurd (omega (arith, e)))

-- the digits of a printed fraction
fraction_printed : (n : ℕ) → n < 1_000_000_000 → (digits : List ℕ) × IsFraction digits n × (fraction_part None n ≡ fraction_text digits)
fraction_printed zero h = ([], (refl, omega arith, fraction_value-nil 9), refl)
fraction_printed (suc k) h =
    let n = suc k in
    let zeros = trailing_zeros 8 n in
    let few = trailing_zeros-le 8 n in
    let count = significant n in
    let is : count ≡ 9 - zeros = significant-not_zero n (λ e. omega arith) in
    let read = places-read count 9 n [] (omega arith) h in
    let digits = places count 1_000_000_000 n in
    let all = all_counted digits (ap (λ xs. prefix_len is_ascii_digit xs) (sym (append-nil digits)) ∙ read.0 ∙ omega (arith, read.1)) in
    let left : 9 - count ≡ zeros = omega arith in
    let multiple = trailing_zeros-mod 8 n in
    let value : fraction_value 9 digits ≡ n = omega (arith, read.2, ap (λ x. n % 10 ^ x) left, multiple) in
    let some : (suc k == 0) ≡ false = grind (arith, nat_tests) in
    let part : fraction_part None n ≡ 46 ∷ digits = rw some in
    (digits, (all, omega (arith, read.1), value), part ∙ sym (dotted digits (omega (arith, read.1))))

instant_is : (t day : ℤ) (n k : ℕ) → pos n ≡ day +ℤ pos 719_528 → t ≡ day *ℤ pos nanos_of_day +ℤ pos k → t ≡ instant n k
instant_is t day n k e is =
    let back : pos n -ℤ pos 719_528 ≡ day = omega (arith, signed_arith) in
    is ∙ ap (λ z. z *ℤ pos nanos_of_day +ℤ pos k) (sym back)

value_is : (t : ℤ) → FitsSigned w64 t → t ≡ instant (days t) (nanos t)
value_is t f =
    let left = int_rem_euclid-parts t nanos_of_day (omega arith) in
    let same = unsigned_abs-parts (int_rem_euclid t (pos nanos_of_day)) in
    instant_is t (int_div_euclid t (pos nanos_of_day)) (days t) (nanos t) (days_is t f).0 (omega (arith, signed_arith))

pub time_text-is_time : (t : ℤ) → FitsSigned w64 t → IsTime (time_text t) t
unfolding time_text
time_text-is_time t f =
    let left = int_rem_euclid-parts t nanos_of_day (omega arith) in
    let same = unsigned_abs-parts (int_rem_euclid t (pos nanos_of_day)) in
    let part = fraction_printed (nanos t % 1_000_000_000) (omega arith) in (
      f,
      inr (record {
        days = days t;
        nanos = nanos t;
        digits = part.0;
        zone = Utc;
        nanos_in = omega arith;
        digits_in = part.1;
        zone_in = tt;
        spelled = rw part.2 refl;
        value = value_is t f ∙ omega (arith, signed_arith);
      }),
    )
