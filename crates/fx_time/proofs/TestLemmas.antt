-- What tests of whole numbers say.
use Rattle.std.proofs.Common.{◌≡◌, ◌-◌, ◌^◌, ◌⊎◌, inl, inr, true, false, Some, None, ℤ, pos, ◌≤ℤ◌, FitsSigned, w64, refl, arith}
use Rattle.std.specs.Prelude.{◌<ℤ◌, int_lt, int_le, neg_ℤ}
use Rattle.std.proofs.lemmas.Int.{ints}
use Rattle.jiff_core.proofs.SignedLemmas.{signed_arith}
use Rattle.fx_time.specs.Months.{year_of}
use Rattle.fx_time.specs.Spans.{is_year, moment}

pub int_tells : (a b : ℤ) → (a <ℤ b) ⊎ (b ≤ℤ a)
int_tells a b = grind (arith, ints)

pub lt_holds : (a b : ℤ) → a <ℤ b → int_lt a b ≡ true
lt_holds a b h = elim (int_lt a b) as (λ t. int_lt a b ≡ t → t ≡ true) [
  | true ↦ λ e. refl
  | false ↦ λ e. absurd (omega (arith, signed_arith))
] refl

pub lt_fails : (a b : ℤ) → b ≤ℤ a → int_lt a b ≡ false
lt_fails a b h = elim (int_lt a b) as (λ t. int_lt a b ≡ t → t ≡ false) [
  | true ↦ λ e. absurd (omega (arith, signed_arith))
  | false ↦ λ e. refl
] refl

le_holds : (a b : ℤ) → a ≤ℤ b → int_le a b ≡ true
le_holds a b h = elim (int_le a b) as (λ t. int_le a b ≡ t → t ≡ true) [
  | true ↦ λ e. refl
  | false ↦ λ e. absurd (omega (arith, signed_arith))
] refl

le_fails : (a b : ℤ) → b <ℤ a → int_le a b ≡ false
le_fails a b h = elim (int_le a b) as (λ t. int_le a b ≡ t → t ≡ false) [
  | true ↦ λ e. absurd (omega (arith, signed_arith))
  | false ↦ λ e. refl
] refl

-- the years -9999 to 9999 are so many months
pub year_in : (k : ℤ) → neg_ℤ (pos 143_628) ≤ℤ k → k ≤ℤ pos 96_359 → is_year (year_of k) ≡ true
year_in k low high =
    let a = le_holds (neg_ℤ (pos 9999)) (year_of k) (omega (arith, signed_arith)) in
    let b = le_holds (year_of k) (pos 9999) (omega (arith, signed_arith)) in
    rw (a, b) refl

pub year_below : (k : ℤ) → k <ℤ neg_ℤ (pos 143_628) → is_year (year_of k) ≡ false
year_below k below = let a = le_fails (neg_ℤ (pos 9999)) (year_of k) (omega (arith, signed_arith)) in rw a refl

pub year_above : (k : ℤ) → pos 96_359 <ℤ k → is_year (year_of k) ≡ false
year_above k above =
    let a = le_holds (neg_ℤ (pos 9999)) (year_of k) (omega (arith, signed_arith)) in
    let b = le_fails (year_of k) (pos 9999) (omega (arith, signed_arith)) in
    rw (a, b) refl

pub moment_in : (t : ℤ) → FitsSigned w64 t → moment t ≡ Some t
moment_in t fits =
    let a = le_holds (neg_ℤ (pos (2 ^ 63))) t (omega (arith, signed_arith)) in
    let b = le_holds t (pos (2 ^ 63 - 1)) (omega (arith, signed_arith)) in
    rw (a, b) refl

pub moment_out : (t : ℤ) → (FitsSigned w64 t → ⊥) → moment t ≡ None
moment_out t out = elim (int_tells t (neg_ℤ (pos (2 ^ 63)))) [
  | inl below ↦ rw (le_fails (neg_ℤ (pos (2 ^ 63))) t below) refl
  | inr low ↦ elim (int_tells (pos (2 ^ 63 - 1)) t) [
    | inl above ↦ rw (le_holds (neg_ℤ (pos (2 ^ 63))) t low, le_fails t (pos (2 ^ 63 - 1)) above) refl
    | inr high ↦ absurd (out (omega (arith, signed_arith)))
  ]
]
