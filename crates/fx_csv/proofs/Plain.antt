-- Integers, times and Booleans print without a byte that asks for quotes.
use Rattle.std.proofs.Common.{◌≡◌, ℕ, zero, suc, ◌+◌, ◌≤◌, ◌/◌, ◌%◌, ◌==◌, ℤ, pos, negsuc, Bool, true, false, List, [], ◌∷◌, ◌++◌, refl, arith}
use Rattle.std.specs.Prelude.{nat_lt, cond, ◌||◌, None}
use Rattle.std.specs.Fmt.{decimal, digit_glyph, digits, digits_onto, signed_decimal}
use Rattle.std.specs.List.{list_any}
use Rattle.std.proofs.lemmas.Bool.Decides.{nat_tests}
use Rattle.jiff_fmt.specs.Text.{pad2, pad4, places, fraction_part, significant}
use Rattle.fx_time.specs.Calendar.{Clock, Date, clock_of}
use Rattle.fx_time.specs.Time.{date_text, seconds_text, time_text}
use Rattle.fx_csv.specs.Cells.{bool_text}
use Rattle.fx_csv.specs.Records.{field_bytes, is_special}

abbrev IsPlain : List ℕ → Type 0
IsPlain text = list_any is_special text ≡ false

-- no byte from `0` on is special
from_zero : (b : ℕ) → 48 ≤ b → is_special b ≡ false
from_zero b h = grind (arith, nat_tests, h)

plain_cons : (b : ℕ) (rest : List ℕ) → is_special b ≡ false → IsPlain rest → IsPlain (b ∷ rest)
plain_cons b rest h r = rw h r

plain_append : (a b : List ℕ) → IsPlain a → IsPlain b → IsPlain (a ++ b)
plain_append [] b p q = q
plain_append (x ∷ a) b p q =
    elim (is_special x) as (λ t. (t || list_any is_special a) ≡ false → (t || list_any is_special (a ++ b)) ≡ false) [
      | true ↦ λ h. h
      | false ↦ λ h. plain_append a b h q
    ] p

glyph : (upper : Bool) (d : ℕ) → is_special (digit_glyph upper d) ≡ false
glyph upper d =
    elim (nat_lt d 10) as (λ t. is_special (cond t (48 + d) (cond upper (55 + d) (87 + d))) ≡ false) [
      | true ↦ from_zero (48 + d) (omega arith)
      | false ↦ letter upper d
    ]
  where
    letter : (upper : Bool) (d : ℕ) → is_special (cond upper (55 + d) (87 + d)) ≡ false
    letter true d = from_zero (55 + d) (omega arith)
    letter false d = from_zero (87 + d) (omega arith)

digits_plain : (k base : ℕ) (upper : Bool) (n : ℕ) (acc : List ℕ) → IsPlain acc → IsPlain (digits_onto k base upper n acc)
digits_plain zero base upper n acc h = h
digits_plain (suc k) base upper n acc h =
    let more = plain_cons (digit_glyph upper (n % base)) acc (glyph upper (n % base)) h in
    elim (n / base == 0) as (λ t. IsPlain (cond t (digit_glyph upper (n % base) ∷ acc) (digits_onto k base upper (n / base) (digit_glyph upper (n % base) ∷ acc)))) [
      | true ↦ more
      | false ↦ digits_plain k base upper (n / base) _ more
    ]

decimal_plain : (n : ℕ) → IsPlain (decimal n)
unfolding digits
decimal_plain n = digits_plain 64 10 false n [] refl

signed_plain : (n : ℤ) → IsPlain (signed_decimal n)
signed_plain (pos n) = decimal_plain n
signed_plain (negsuc n) = decimal_plain (suc n)

pad2_plain : (n : ℕ) → IsPlain (pad2 n)
pad2_plain n =
    plain_cons (48 + n / 10) ((48 + n % 10) ∷ []) (from_zero (48 + n / 10) (omega arith))
    (plain_cons (48 + n % 10) [] (from_zero (48 + n % 10) (omega arith)) refl)

places_plain : (k whole n : ℕ) → IsPlain (places k whole n)
unfolding places
places_plain zero whole n = refl
places_plain (suc k) whole n =
    plain_cons (48 + n / (whole / 10)) (places k (whole / 10) (n % (whole / 10))) (from_zero (48 + n / (whole / 10)) (omega arith))
    (places_plain k (whole / 10) (n % (whole / 10)))

fraction_plain : (n : ℕ) → IsPlain (fraction_part None n)
fraction_plain n =
    elim (n == 0) as (λ t. IsPlain (cond t [] (46 ∷ places (significant n) 1_000_000_000 n))) [
      | true ↦ refl
      | false ↦ places_plain (significant n) 1_000_000_000 n
    ]

pad4_plain : (n : ℕ) → IsPlain (pad4 n)
pad4_plain n = plain_append (pad2 (n / 100)) (pad2 (n % 100)) (pad2_plain (n / 100)) (pad2_plain (n % 100))

date_plain : (d : Date) → IsPlain (date_text d)
date_plain d =
    plain_append (pad4 d.year) (45 ∷ pad2 d.month ++ 45 ∷ pad2 d.day) (pad4_plain d.year)
    (plain_append (pad2 d.month) (45 ∷ pad2 d.day) (pad2_plain d.month) (pad2_plain d.day))

seconds_plain : (c : Clock) → IsPlain (seconds_text c)
seconds_plain c =
    plain_append (date_text c.date) (84 ∷ pad2 c.hour ++ 58 ∷ pad2 c.minute ++ 58 ∷ pad2 c.second) (date_plain c.date)
    (plain_append (pad2 c.hour) (58 ∷ pad2 c.minute ++ 58 ∷ pad2 c.second) (pad2_plain c.hour)
    (plain_append (pad2 c.minute) (58 ∷ pad2 c.second) (pad2_plain c.minute) (pad2_plain c.second)))

time_plain : (t : ℤ) → IsPlain (time_text t)
unfolding time_text
time_plain t =
    plain_append (seconds_text (clock_of t)) (fraction_part None (clock_of t).nanosecond ++ 90 ∷ []) (seconds_plain (clock_of t))
    (plain_append (fraction_part None (clock_of t).nanosecond) (90 ∷ []) (fraction_plain (clock_of t).nanosecond) refl)

plain_field : (text : List ℕ) → IsPlain text → text ≡ field_bytes text
plain_field text h = rw h refl

pub int_field : (n : ℤ) → signed_decimal n ≡ field_bytes (signed_decimal n)
int_field n = plain_field (signed_decimal n) (signed_plain n)

pub time_field : (t : ℤ) → time_text t ≡ field_bytes (time_text t)
time_field t = plain_field (time_text t) (time_plain t)

pub bool_field : (b : Bool) → bool_text b ≡ field_bytes (bool_text b)
bool_field true = refl
bool_field false = refl
