-- Where one text stands in another, and what tests of texts answer.
use Rattle.std.proofs.Common.{◌≡◌, ℕ, ◌-◌, Bool, true, false, List, [], ◌∷◌, ◌++◌, length, take, drop, inl, inr, Some, nat_eq, refl, sym, ap, ◌∙◌}
use Rattle.std.specs.Prelude.{◌≢◌, ◌↔◌, ◌⊎◌, Ok}
use Rattle.std.specs.List.{starts_with, ends_with}
use Rattle.std.specs.Str.Iter.{HasSubslice}
use Rattle.std.proofs.lemmas.Bool.Decides.{Decides-eqb}
use Rattle.std.proofs.lemmas.Slice.Eq.{starts_is, ends_is}
use Rattle.fx_value.specs.declared.scalar.Scalar.{Scalar}
use Rattle.fx_value.specs.declared.scalar.Scalar.TheVariants as scalar
use Rattle.fx_ops.specs.Arguments.{text_at, ◌>>=◌}
use Rattle.fx_ops.specs.Call.{tested}
use Rattle.fx_ops.specs.Texts.{occurs, without_front, without_back}

pub bool_tells : (b : Bool) → (b ≡ true) ⊎ (b ≡ false)
bool_tells true = inl refl
bool_tells false = inr refl

bool_same : (a b : Bool) → (a ≡ true) ↔ (b ≡ true) → a ≡ b
bool_same true b is = sym (is.0 refl)
bool_same false true is = let out = is.1 refl in absurd cc
bool_same false false is = refl

-- a text begins with another, or it doesn't
pub begins : (text front : List ℕ)
    → ((starts_with nat_eq text front ≡ true) × (text ≡ front ++ drop (length front) text)) ⊎ ((starts_with nat_eq text front ≡ false) × ((rest : List ℕ) → text ≢ front ++ rest))
begins text front =
    let is = starts_is Decides-eqb text front (starts_with nat_eq text front) refl in
    elim (bool_tells (starts_with nat_eq text front)) [
      | inl hit ↦ inl (hit, is.0 hit)
      | inr miss ↦ inr (miss, λ rest e. let hit = is.1 rest e in absurd cc)
    ]

ends : (text back : List ℕ)
    → ((ends_with nat_eq text back ≡ true) × (text ≡ take (length text - length back) text ++ back)) ⊎ ((ends_with nat_eq text back ≡ false) × ((front : List ℕ) → text ≢ front ++ back))
ends text back =
    let is = ends_is Decides-eqb text back (ends_with nat_eq text back) refl in
    elim (bool_tells (ends_with nat_eq text back)) [
      | inl hit ↦ inl (hit, is.0 hit)
      | inr miss ↦ inr (miss, λ front e. let hit = is.1 front e in absurd cc)
    ]

pub without_front-there : (front text rest : List ℕ) → text ≡ front ++ rest → without_front front text ≡ drop (length front) text
without_front-there front text rest e = elim (begins text front) [
  | inl hit ↦ rw hit.0 refl
  | inr miss ↦ absurd (miss.1 rest e)
]

pub without_front-lacking : (front text : List ℕ) → ((rest : List ℕ) → text ≢ front ++ rest) → without_front front text ≡ text
without_front-lacking front text lacks = elim (begins text front) [
  | inl hit ↦ absurd (lacks (drop (length front) text) hit.1)
  | inr miss ↦ rw miss.0 refl
]

pub without_back-there : (back text rest : List ℕ) → text ≡ rest ++ back → without_back back text ≡ take (length text - length back) text
without_back-there back text rest e = elim (ends text back) [
  | inl hit ↦ rw hit.0 refl
  | inr miss ↦ absurd (miss.1 rest e)
]

pub without_back-lacking : (back text : List ℕ) → ((front : List ℕ) → text ≢ front ++ back) → without_back back text ≡ text
without_back-lacking back text lacks = elim (ends text back) [
  | inl hit ↦ absurd (lacks (take (length text - length back) text) hit.1)
  | inr miss ↦ rw miss.0 refl
]

-- a part occurs exactly where the text is something, the part, and something
found : (part text : List ℕ) → occurs part text ≡ true → HasSubslice text part
found part [] e = elim (begins [] part) [
  | inl hit ↦ ([], drop (length part) [], hit.1)
  | inr miss ↦ let out = miss.0 in absurd cc
]
found part (byte ∷ text) e = elim (begins (byte ∷ text) part) [
  | inl hit ↦ ([], drop (length part) (byte ∷ text), hit.1)
  | inr miss ↦ let later = found part text (rw miss.0 at e) in (byte ∷ later.0, later.1, ap (λ t. byte ∷ t) later.2)
]

stands : (part text a b : List ℕ) → text ≡ a ++ (part ++ b) → occurs part text ≡ true
stands part [] [] b e = elim (begins [] part) [ inl hit ↦ hit.0 | inr miss ↦ absurd (miss.1 b e) ]
stands part [] (x ∷ a) b e = absurd cc
stands part (byte ∷ text) [] b e = elim (begins (byte ∷ text) part) [ inl hit ↦ rw hit.0 refl | inr miss ↦ absurd (miss.1 b e) ]
stands part (byte ∷ text) (x ∷ a) b e =
    let rest : text ≡ a ++ (part ++ b) = cc in
    let later = stands part text a b rest in
    elim (begins (byte ∷ text) part) [ inl hit ↦ rw hit.0 refl | inr miss ↦ rw miss.0 later ]

pub occurs_is : (r : Bool) (part text : List ℕ) → (r ≡ true) ↔ HasSubslice text part → r ≡ occurs part text
occurs_is r part text is = bool_same r (occurs part text) (
  λ e. let there = is.0 e in stands part text there.0 there.1 there.2,
  λ e. is.1 (found part text e),
)

-- the answer of a test, where both texts are there
pub tested_is : (test : List ℕ → List ℕ → Bool) (args : List Scalar) (text part : List ℕ) (b : Bool) → Some text ≡ text_at args 0 → Some part ≡ text_at args 1 → b ≡ test text part
    → tested test args ≡ Ok (scalar.Bool b)
tested_is test args text part b first second e =
    (λ i. sym first i >>= (λ t. sym second i >>= (λ p. Ok (scalar.Bool (test t p))))) ∙ ap (λ x. Ok (scalar.Bool x)) (sym e)
