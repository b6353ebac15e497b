-- The characters of a text from a place on.
use Rattle.std.proofs.Common.{◌≡◌, ℕ, zero, suc, ◌+◌, ◌-◌, ◌<◌, ◌≤◌, true, List, [], ◌∷◌, ◌++◌, length, take, drop, inl, inr, refl, sym, ap, ◌∙◌, arith, take-append-drop, drop-drop}
use Rattle.std.specs.Prelude.{nat_le, slice_range, if◌then◌else◌, Some, None}
use Rattle.std.specs.Str.{chars, encode_utf8_all, all_scalars, IsUtf8}
use Rattle.std.proofs.lemmas.Str.{encodes-append, scalars-chars}
use Rattle.std.proofs.lemmas.Bool.Decides.{leb_tells}
use Rattle.fx_ops.specs.Texts.{between}

-- one more is left out
pub drop_next : {A : Type 0} (items : List A) (i : ℕ) (first : A) (rest : List A) → first ∷ rest ≡ drop i items → (i < length items) × (rest ≡ drop (i + 1) items)
drop_next [] zero first rest e = absurd cc
drop_next [] (suc i) first rest e = absurd cc
drop_next (item ∷ items) zero first rest e = (omega arith, cc)
drop_next (item ∷ items) (suc i) first rest e =
    let later = drop_next items i first rest e in
    let n : suc i + 1 ≡ suc (i + 1) = omega arith in
    (omega arith, rw n later.1)

scalars-drop : (n : ℕ) (cs : List ℕ) → all_scalars cs ≡ true → all_scalars (drop n cs) ≡ true
scalars-drop zero cs h = h
scalars-drop (suc n) [] h = h
scalars-drop (suc n) (c ∷ cs) h = scalars-drop n cs (grind (arith, h))

-- what follows so many characters is a text
pub past-IsUtf8 : (n : ℕ) (text : List ℕ) → IsUtf8 text → IsUtf8 (encode_utf8_all (drop n (chars text)))
past-IsUtf8 n text is = (drop n (chars text), (scalars-drop n (chars text) (scalars-chars text is), refl))

pub past_found : (n : ℕ) (cs found text : List ℕ) → Some found ≡ (if nat_le n (length cs) then Some text else None) → (n ≤ length cs) × (found ≡ text)
past_found n cs found text e = elim (leb_tells n (length cs)) [
  | inl within ↦ (within.1, let there = rw within.0 at e in cc)
  | inr beyond ↦ let none = rw beyond.0 at e in absurd cc
]

pub past_none : (n : ℕ) (cs text : List ℕ) → None ≡ (if nat_le n (length cs) then Some text else None) → length cs < n
past_none n cs text e = elim (leb_tells n (length cs)) [
  | inl within ↦ let some = rw within.0 at e in absurd cc
  | inr beyond ↦ omega (arith, beyond.1)
]

pub front_of : (text : List ℕ) (n : ℕ) → slice_range text 0 n ≡ take n text
front_of text n = grind arith

-- the characters between two places stand before those from the second on
pub between_is : (text tail after : List ℕ) (from to : ℕ) → from ≤ to → tail ≡ encode_utf8_all (drop from (chars text)) → after ≡ encode_utf8_all (drop to (chars text))
    → tail ≡ between from to text ++ after
between_is text tail after from to h e f =
    let rest = drop from (chars text) in
    let n : from + (to - from) ≡ to = omega arith in
    let twice : drop (to - from) rest ≡ drop to (chars text) = drop-drop (to - from) from (chars text) ∙ ap (λ k. drop k (chars text)) n in
    let split : encode_utf8_all rest ≡ between from to text ++ encode_utf8_all (drop (to - from) rest) =
    ap encode_utf8_all (sym (take-append-drop (to - from) rest)) ∙ encodes-append (take (to - from) rest) (drop (to - from) rest) in
    e ∙ split ∙ ap (λ cs. between from to text ++ encode_utf8_all cs) twice ∙ ap (λ t. between from to text ++ t) (sym f)
