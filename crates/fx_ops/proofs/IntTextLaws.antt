-- The integers that texts write are those that `parse` reads, but for a text with a `+`.
use Rattle.std.proofs.Common.{◌≡◌, ℕ, true, false, List, [], ◌∷◌, length, drop, ℤ, inl, inr, Some, None, FitsSigned, w64, refl, sym, ap, ◌∙◌, subst}
use Rattle.std.specs.Prelude.{◌≢◌, ◌↔◌, Option, ◌==◌, if◌then◌else◌, nat_lt, slice_index}
use Rattle.std.specs.Char.{digit_value}
use Rattle.std.specs.List.{list_all}
use Rattle.std.specs.Str.Parse.{AllDigits, IsNumeral, signed_digits_value, starts_with_minus, without_leading_sign}
use Rattle.std.proofs.lemmas.Bool.{and_from, and_parts, and_right, eqb-true, lt-ltb, ltb-true}
use Rattle.std.proofs.lemmas.Bool.Decides.{eqb_tells}
use Rattle.fx_ops.specs.Convert.{IsIntText, int_value, is_int_text, is_numeral}
use Rattle.fx_ops.proofs.DateLemmas.{fits_test, unfit_test}
use Rattle.fx_ops.proofs.TextLemmas.{bool_tells}

digits_pass : (text : List ℕ) → AllDigits 10 text → list_all (λ byte. nat_lt (digit_value byte) 10) text ≡ true
digits_pass [] digits = refl
digits_pass (byte ∷ text) digits =
    and_from (nat_lt (digit_value byte) 10) (list_all (λ b. nat_lt (digit_value b) 10) text) (lt-ltb (digit_value byte) 10 digits.0) (digits_pass text digits.1)

digits_told : (text : List ℕ) → list_all (λ byte. nat_lt (digit_value byte) 10) text ≡ true → AllDigits 10 text
digits_told [] pass = tt
digits_told (byte ∷ text) pass =
    let parts = and_parts (nat_lt (digit_value byte) 10) (list_all (λ b. nat_lt (digit_value b) 10) text) pass in
    (ltb-true (digit_value byte) 10 parts.0, digits_told text parts.1)

numeral_passes : (text : List ℕ) → IsNumeral 10 text → is_numeral text ≡ true
numeral_passes text is =
    and_from (nat_lt 0 (length text)) (list_all (λ b. nat_lt (digit_value b) 10) text) (lt-ltb 0 (length text) is.0) (digits_pass text is.1)

numeral_told : (text : List ℕ) → is_numeral text ≡ true → IsNumeral 10 text
numeral_told text pass =
    let parts = and_parts (nat_lt 0 (length text)) (list_all (λ b. nat_lt (digit_value b) 10) text) pass in
    (ltb-true 0 (length text) parts.0, digits_told text parts.1)

-- the digits behind a sign that is no `+`
behind_sign : (text : List ℕ) → slice_index text 0 ≢ 43 → without_leading_sign text ≡ (if starts_with_minus text then drop 1 text else text)
behind_sign text plus = elim (bool_tells (starts_with_minus text)) [
  | inl minus ↦ rw minus refl
  | inr none ↦ rw none (elim (bool_tells (slice_index text 0 == 43)) [
    | inl is ↦ absurd (plus (eqb-true (slice_index text 0) 43 is))
    | inr isnt ↦ rw isnt refl
  ])
]

int_value-read : (text : List ℕ) → slice_index text 0 ≢ 43 → IsNumeral 10 (without_leading_sign text) → FitsSigned w64 (signed_digits_value 10 text)
    → int_value text ≡ Some (signed_digits_value 10 text)
int_value-read text plus numeral fits =
    let is : is_int_text text ≡ true = ap is_numeral (sym (behind_sign text plus)) ∙ numeral_passes (without_leading_sign text) numeral in
    rw (is, fits_test (signed_digits_value 10 text) fits) refl

int_value-unread : (text : List ℕ) → slice_index text 0 ≢ 43 → (IsNumeral 10 (without_leading_sign text) × FitsSigned w64 (signed_digits_value 10 text) → ⊥)
    → int_value text ≡ None
int_value-unread text plus unread = elim (bool_tells (is_int_text text)) [
  | inl is ↦
      let numeral = numeral_told (without_leading_sign text) (ap is_numeral (behind_sign text plus) ∙ is) in
      rw (is, unfit_test (signed_digits_value 10 text) (λ fits. unread (numeral, fits))) refl
  | inr isnt ↦ rw isnt refl
]

int_value-plus : (text : List ℕ) → slice_index text 0 ≡ 43 → int_value text ≡ None
int_value-plus [] plus = absurd cc
int_value-plus (byte ∷ text) plus =
    let none : is_int_text (43 ∷ text) ≡ false = and_right (nat_lt 0 (length (43 ∷ text))) false refl in
    let unread : int_value (43 ∷ text) ≡ None = rw none refl in
    ap (λ b. int_value (b ∷ text)) plus ∙ unread

-- what is a text's integer exactly where the text writes it is the text's value
pub int_told : (text : List ℕ) (o : Option ℤ) → ((n : ℤ) → IsIntText text n ↔ (o ≡ Some n)) → o ≡ int_value text
int_told text (Some n) told =
    let is : IsIntText text n = (told n).1 refl in
    let fits : FitsSigned w64 (signed_digits_value 10 text) = subst (λ z. FitsSigned w64 z) is.3 is.2 in
    ap (λ z. Some z) is.3 ∙ sym (int_value-read text is.0 is.1 fits)
int_told text None told = elim (eqb_tells (slice_index text 0) 43) [
  | inl plus ↦ sym (int_value-plus text plus.1)
  | inr other ↦ sym (int_value-unread text other.1 (λ reads. let some = (told (signed_digits_value 10 text)).0 (other.1, reads.0, reads.1, refl) in absurd cc))
]
