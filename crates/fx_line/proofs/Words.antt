-- Words are cut from the front of some bytes in one way.
use Rattle.std.proofs.Common.{◌≡◌, ℕ, ◌-◌, ◌≤◌, Bool, true, false, not, ◌&&◌, ◌||◌, cond, List, [], ◌∷◌, ◌++◌, length, take, drop, refl, sym, ap, ◌∙◌, subst, arith, length-append}
use Rattle.std.proofs.Math.Seq.{take-append_seam, drop-append_seam}
use Rattle.std.proofs.lemmas.Bool.{and_parts, and_from, false≢true}
use Rattle.fx_line.specs.declared.word.Word.{Word}
use Rattle.fx_line.specs.Word.{ends, is_escape, is_whole, is_word, begins, front, back}
use Rattle.fx_line.specs.Line.{is_empty}

pub front-back : (k : Word) (p : Bool) (bytes : List ℕ) → front k p bytes ++ back k p bytes ≡ bytes
front-back k p [] = refl
front-back k p (b ∷ rest) =
    elim (not p && ends k b) as (λ t. cond t [] (b ∷ front k (is_escape k p b) rest) ++ cond t (b ∷ rest) (back k (is_escape k p b) rest) ≡ b ∷ rest) [
      | true ↦ refl
      | false ↦ ap (λ r. b ∷ r) (front-back k (is_escape k p b) rest)
    ]

pub back_short : (k : Word) (p : Bool) (bytes : List ℕ) → length (back k p bytes) ≤ length bytes
back_short k p bytes = omega (arith, ap length (front-back k p bytes), length-append (front k p bytes) (back k p bytes))

front_len : (k : Word) (p : Bool) (bytes : List ℕ) → length bytes - length (back k p bytes) ≡ length (front k p bytes)
front_len k p bytes = omega (arith, ap length (front-back k p bytes), length-append (front k p bytes) (back k p bytes))

pub take_front : (k : Word) (p : Bool) (bytes : List ℕ) → take (length bytes - length (back k p bytes)) bytes ≡ front k p bytes
take_front k p bytes =
    ap (λ n. take n bytes) (front_len k p bytes)
    ∙ ap (take (length (front k p bytes))) (sym (front-back k p bytes))
    ∙ take-append_seam (front k p bytes) (back k p bytes)

pub drop_front : (k : Word) (p : Bool) (bytes : List ℕ) → drop (length bytes - length (back k p bytes)) bytes ≡ back k p bytes
drop_front k p bytes =
    ap (λ n. drop n bytes) (front_len k p bytes)
    ∙ ap (drop (length (front k p bytes))) (sym (front-back k p bytes))
    ∙ drop-append_seam (front k p bytes) (back k p bytes)

goes_on : (p e : Bool) → (p || not e) ≡ true → (not p && e) ≡ false
goes_on true e h = refl
goes_on false true h = absurd (false≢true h)
goes_on false false h = refl

-- a word ends where nothing stands behind it, or a byte that ends it
pub record IsEnd (k : Word) (rest : List ℕ) : Type 0 where
  pub ends : (is_empty rest || begins (ends k) rest) ≡ true

pub front_word : (k : Word) (p : Bool) (w r : List ℕ) → is_whole k p w ≡ true → IsEnd k r → front k p (w ++ r) ≡ w
front_word k p [] [] h e = refl
front_word k p [] (b ∷ r) h e = ap (λ t. cond t [] (b ∷ front k (is_escape k p b) r)) (and_from (not p) (ends k b) h e.ends)
front_word k p (b ∷ w) r h e =
    let parts = and_parts _ _ h in
    ap (λ t. cond t [] (b ∷ front k (is_escape k p b) (w ++ r))) (goes_on p (ends k b) parts.0)
    ∙ ap (λ x. b ∷ x) (front_word k (is_escape k p b) w r parts.1 e)

pub back_word : (k : Word) (p : Bool) (w r : List ℕ) → is_whole k p w ≡ true → IsEnd k r → back k p (w ++ r) ≡ r
back_word k p [] [] h e = refl
back_word k p [] (b ∷ r) h e = ap (λ t. cond t (b ∷ r) (back k (is_escape k p b) r)) (and_from (not p) (ends k b) h e.ends)
back_word k p (b ∷ w) r h e =
    let parts = and_parts _ _ h in
    ap (λ t. cond t (b ∷ (w ++ r)) (back k (is_escape k p b) (w ++ r))) (goes_on p (ends k b) parts.0)
    ∙ back_word k (is_escape k p b) w r parts.1 e

pub whole_word : (k : Word) (w : List ℕ) → is_word k w ≡ true → is_whole k false w ≡ true
whole_word k [] h = absurd (false≢true h)
whole_word k (b ∷ w) h = h

-- what stands behind a word
pub back_end : (k : Word) (p : Bool) (bytes : List ℕ) → IsEnd k (back k p bytes)
back_end k p [] = record { ends = refl }
back_end k p (b ∷ rest) =
    elim (not p && ends k b) as (λ t. (not p && ends k b) ≡ t → IsEnd k (cond t (b ∷ rest) (back k (is_escape k p b) rest))) [
      | true ↦ λ e. record { ends = (and_parts _ _ e).1 }
      | false ↦ λ e. back_end k (is_escape k p b) rest
    ] refl
