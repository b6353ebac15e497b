-- Numbers and integers at the front of a text.
use Rattle.std.proofs.Common.{◌≡◌, ℕ, zero, suc, ◌+◌, ◌-◌, ◌*◌, ◌<◌, ◌≤◌, ◌==◌, Bool, true, false, [], ◌∷◌, ◌++◌, length, take, drop, get_or, None, refl, ap, ◌∙◌, arith}
use Rattle.std.specs.Prelude.{◌||◌, nat_le, fold, is_some}
use Rattle.std.specs.List.{prefix_len, list_all}
use Rattle.std.proofs.lemmas.Bool.{and_parts, or_parts, leb-true, le-leb, lt-leb, eqb-true, eq-eqb}
use Rattle.std.proofs.lemmas.Bool.Decides.{nat_tests}
use Rattle.std.proofs.lemmas.List.{length-take-le}
use Rattle.fx_scan.specs.Forms.{Bytes, begins, is_letter, is_digit, is_digits, is_name_byte, is_zero, number_of, greatest, IsInt}
use Rattle.fx_scan.specs.Tokens.{begins_micro, begins_fraction, spoils_int}
use Rattle.fx_scan.specs.Readers.{number_within, leads_by_zero, int_fits}
use Rattle.fx_scan.proofs.Runs.{by_bool, taken, dropped, run_is, run_passes, run_within}

-- digits only add
grows : (w : Bytes) (a : ℕ) → a ≤ fold (λ n digit. 10 * n + (digit - 48)) a w
grows [] a = omega arith
grows (d ∷ w) a = omega (arith, grows w (10 * a + (d - 48)))

fold_front : (k : ℕ) (w : Bytes) (a : ℕ) → fold (λ n digit. 10 * n + (digit - 48)) a (take k w) ≤ fold (λ n digit. 10 * n + (digit - 48)) a w
fold_front zero w a = grows w a
fold_front (suc k) [] a = omega arith
fold_front (suc k) (d ∷ w) a = fold_front k w (10 * a + (d - 48))

fold_next : (k : ℕ) (w : Bytes) (a : ℕ) → k < length w
    → fold (λ n digit. 10 * n + (digit - 48)) a (take (suc k) w) ≡ 10 * fold (λ n digit. 10 * n + (digit - 48)) a (take k w) + (get_or w k 0 - 48)
fold_next k [] a h = absurd (omega arith)
fold_next zero (d ∷ w) a h = refl
fold_next (suc k) (d ∷ w) a h = fold_next k w (10 * a + (d - 48)) (omega arith)

-- a number whose first digits are too great is too great
pub number_over : (w : Bytes) (k n : ℕ) → k < length w → n ≡ number_of (take k w) → greatest < 10 * n + (get_or w k 0 - 48) → None ≡ number_within w
number_over w k n h is over =
    let more = fold_next k w 0 h in
    let all = fold_front (suc k) w 0 in
    let great : nat_le (number_of w) greatest ≡ false = lt-leb (number_of w) greatest (omega arith) in
    rw great refl

pub digit_at : (w : Bytes) (k : ℕ) → list_all is_digit w ≡ true → k < length w → 48 ≤ get_or w k 0
unfolding is_digit
digit_at [] k h l = absurd (omega arith)
digit_at (b ∷ w) zero h l = let parts = and_parts (is_digit b) (list_all is_digit w) h in grind (arith, nat_tests, parts.0)
digit_at (b ∷ w) (suc k) h l = digit_at w k (and_parts (is_digit b) (list_all is_digit w) h).1 (omega arith)

pub all_digits : (u : Bytes) → is_digits u ≡ true → list_all is_digit u ≡ true
all_digits [] h = absurd cc
all_digits (b ∷ u) h = h

pub digits_all : (u : Bytes) → 0 < length u → list_all is_digit u ≡ true → is_digits u ≡ true
digits_all [] some h = absurd (omega arith)
digits_all (b ∷ u) some h = h

pub some_digits : (u : Bytes) → is_digits u ≡ true → 0 < length u
some_digits [] h = absurd cc
some_digits (b ∷ u) h = omega arith

-- a first byte that fails a wider test fails
pub begins_not : (p q : ℕ → Bool) → ((b : ℕ) → p b ≡ true → q b ≡ true) → (z : Bytes) → begins q z ≡ false → begins p z ≡ false
begins_not p q wider [] h = refl
begins_not p q wider (b ∷ z) h = by_bool (p b) (λ yes. let e = wider b yes in absurd cc) (λ other. other)

pub digit_in_name : (b : ℕ) → is_digit b ≡ true → is_name_byte b ≡ true
unfolding is_name_byte
digit_in_name b h = by_bool (is_letter b) (λ yes. rw yes refl) (λ other. rw (other, h) refl)

pub no_digit : (z : Bytes) → begins is_name_byte z ≡ false → begins is_digit z ≡ false
no_digit z h = begins_not is_digit is_name_byte digit_in_name z h

-- what doesn't spoil an integer begins with no byte of a name, no `µ` and no fraction
pub unspoilt : (z : Bytes) → spoils_int z ≡ false → (begins is_name_byte z ≡ false) × (begins_micro z ≡ false)
unspoilt z h =
    let first = or_parts (begins is_name_byte z) (begins_micro z || begins_fraction z) h in
    (first.0, (or_parts (begins_micro z) (begins_fraction z) first.1).0)

within : (u : Bytes) → number_of u ≤ greatest → is_some (number_within u) ≡ true
within u h = let le = le-leb (number_of u) greatest h in rw le refl

not_within : (u : Bytes) → is_some (number_within u) ≡ true → number_of u ≤ greatest
not_within u h = by_bool (nat_le (number_of u) greatest) (λ yes. leb-true (number_of u) greatest yes) (λ over. let e = rw over at h in absurd cc)

int_from : (u z : Bytes) → list_all is_digit u ≡ true → 0 < length u → int_fits u z ≡ true → IsInt u × (spoils_int z ≡ false)
int_from u z all some h = by_bool (spoils_int z)
    (λ spoilt. let e = rw spoilt at h in absurd cc)
    (λ sound. by_bool (leads_by_zero u)
    (λ leads. let e = rw (sound, leads) at h in absurd cc)
    (λ leads_not. (
      record {
        digits = digits_all u some all;
        no_leading_zero = λ zero_first. by_bool (length u == 1) (λ one. eqb-true (length u) 1 one) (λ other. let e = rw (zero_first, other) at leads_not in absurd cc);
        bound = not_within u (rw (sound, leads_not) at h);
      },
      sound,
    )))

-- the digits at the front are an integer
pub int_found : (w : Bytes) → 0 < prefix_len is_digit w → int_fits (take (prefix_len is_digit w) w) (drop (prefix_len is_digit w) w) ≡ true
    → IsInt (take (prefix_len is_digit w) w) × (spoils_int (drop (prefix_len is_digit w) w) ≡ false)
int_found w some h =
    let n = prefix_len is_digit w in
    int_from (take n w) (drop n w) (run_passes is_digit w) (omega (arith, length-take-le n w (run_within is_digit w))) h

int_fits_is : (u z : Bytes) → IsInt u → spoils_int z ≡ false → int_fits u z ≡ true
int_fits_is u z i sound =
    let leads : leads_by_zero u ≡ false = by_bool (begins is_zero u)
    (λ first. let one = eq-eqb (length u) 1 (i.no_leading_zero first) in rw (first, one) refl)
    (λ other. rw other refl) in
    rw (sound, leads) (within u i.bound)

-- an integer at the front is all of the digits there, and fits
pub int_is : (w u z : Bytes) → w ≡ u ++ z → IsInt u → spoils_int z ≡ false
    → (prefix_len is_digit w ≡ length u) × (int_fits (take (prefix_len is_digit w) w) (drop (prefix_len is_digit w) w) ≡ true)
int_is w u z e i sound =
    let digits = all_digits u i.digits in
    let len : prefix_len is_digit w ≡ length u = ap (prefix_len is_digit) e ∙ run_is is_digit u z digits (no_digit z (unspoilt z sound).0) in
    (len, rw (len, taken w u z e, dropped w u z e) (int_fits_is u z i sound))
