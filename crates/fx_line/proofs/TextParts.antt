-- The parts of a text that ASCII bytes divide are texts.
use Rattle.std.proofs.Common.{◌≡◌, ℕ, ◌+◌, ◌<◌, Bool, true, false, not, ◌&&◌, ◌||◌, cond, List, [], ◌∷◌, ◌++◌, length, take, drop, get_or, refl, sym, ap, ◌∙◌, subst, arith, append_assoc, append-nil, length-append, eqb, add-one}
use Rattle.std.specs.Str.{IsUtf8, IsValidUpTo}
use Rattle.std.proofs.Math.Seq.{take-length, take-append_seam, drop-append_seam, drop-append-add}
use Rattle.std.proofs.lemmas.Bool.{and_parts, eqb-true, false≢true}
use Rattle.std.proofs.lemmas.Str.{IsUtf8-append, IsUtf8-nil, IsUtf8-take, IsUtf8-drop, IsCharBoundary-before_ascii, IsCharBoundary-after_ascii}
use Rattle.fx_line.specs.declared.word.Word.{Word}
use Rattle.fx_base.specs.Text.{same_text}
use Rattle.fx_line.specs.declared.word.Word.TheVariants as word
use Rattle.fx_line.specs.Value.{is_text, inside}
use Rattle.fx_line.specs.Word.{begins, yields, said, front, back}
use Rattle.fx_line.proofs.Words.{front-back}

at_seam : (xs : List ℕ) (b : ℕ) (ys : List ℕ) → get_or (xs ++ b ∷ ys) (length xs) 0 ≡ b
at_seam [] b ys = refl
at_seam (x ∷ xs) b ys = at_seam xs b ys

within : (xs : List ℕ) (b : ℕ) (ys : List ℕ) → length xs < length (xs ++ b ∷ ys)
within xs b ys = omega (arith, length-append xs (b ∷ ys))

-- before an ASCII byte, from it on, and behind it
pub text_before : (xs : List ℕ) (b : ℕ) (ys : List ℕ) → b < 128 → IsUtf8 (xs ++ b ∷ ys) → IsUtf8 xs
text_before xs b ys small u =
    let bs : List ℕ = xs ++ b ∷ ys in
    let at : get_or bs (length xs) 0 < 128 = omega (arith, at_seam xs b ys) in
    subst IsUtf8 (take-append_seam xs (b ∷ ys)) (IsUtf8-take bs (length xs) u (IsCharBoundary-before_ascii bs (length xs) (within xs b ys) at))

pub text_from : (xs : List ℕ) (b : ℕ) (ys : List ℕ) → b < 128 → IsUtf8 (xs ++ b ∷ ys) → IsUtf8 (b ∷ ys)
text_from xs b ys small u =
    let bs : List ℕ = xs ++ b ∷ ys in
    let at : get_or bs (length xs) 0 < 128 = omega (arith, at_seam xs b ys) in
    subst IsUtf8 (drop-append_seam xs (b ∷ ys)) (IsUtf8-drop bs (length xs) u (IsCharBoundary-before_ascii bs (length xs) (within xs b ys) at))

pub text_behind : (xs : List ℕ) (b : ℕ) (ys : List ℕ) → b < 128 → IsUtf8 (xs ++ b ∷ ys) → IsUtf8 ys
text_behind xs b ys small u =
    let bs : List ℕ = xs ++ b ∷ ys in
    let at : get_or bs (length xs) 0 < 128 = omega (arith, at_seam xs b ys) in
    subst IsUtf8 (drop-append-add xs (b ∷ ys) 1) (IsUtf8-drop bs (length xs + 1) u (IsCharBoundary-after_ascii bs (length xs) u (within xs b ys) at))

-- what a word says is a text where the word is one
drop_escape : (xs : List ℕ) (b : ℕ) (r : List ℕ) → eqb b 92 ≡ true → IsUtf8 (xs ++ b ∷ r) → IsUtf8 (xs ++ r)
drop_escape xs b r e u =
    let small : b < 128 = omega (arith, eqb-true b 92 e) in
    IsUtf8-append xs r (text_before xs b r small u) (text_behind xs b r small u)

keep_byte : (xs : List ℕ) (b : ℕ) (r : List ℕ) → (xs ++ b ∷ []) ++ r ≡ xs ++ b ∷ r
keep_byte xs b r = append_assoc xs (b ∷ []) r

said_behind : (k : Word) (plain : Bool) (xs r : List ℕ) → IsUtf8 (xs ++ r) → IsUtf8 (xs ++ said k plain r)
said_behind k plain xs [] u = u
said_behind k plain xs (b ∷ r) u =
    elim (not plain && (eqb b 92 && begins (yields k) r)) as (λ t. (not plain && (eqb b 92 && begins (yields k) r)) ≡ t → IsUtf8 (xs ++ cond t (said k true r) (b ∷ said k false r))) [
      | true ↦ λ e. said_behind k true xs r (drop_escape xs b r (and_parts _ _ (and_parts (not plain) _ e).1).0 u)
      | false ↦ λ e. subst IsUtf8 (keep_byte xs b (said k false r)) (said_behind k false (xs ++ b ∷ []) r (subst IsUtf8 (sym (keep_byte xs b r)) u))
    ] refl

pub said_text : (k : Word) (r : List ℕ) → IsUtf8 r → IsUtf8 (said k false r)
said_text k r u = said_behind k false [] r u

-- a text is valid to its end
pub no_text_stops : (bytes : List ℕ) (at : ℕ) → IsUtf8 bytes → IsValidUpTo bytes at → ⊥
no_text_stops bytes at u up = up.longest (length bytes) up.short (subst IsUtf8 (sym (take-length bytes)) u)

-- what stands between the quotes of a text
same_quote : (r : List ℕ) → same_text r (34 ∷ []) ≡ true → r ≡ 34 ∷ []
same_quote [] h = absurd (false≢true h)
same_quote (b ∷ []) h = ap (λ x. x ∷ []) (eqb-true b 34 (and_parts _ _ h).0)
same_quote (b ∷ c ∷ r) h = absurd (false≢true (and_parts (eqb b 34) _ h).1)

text_inside : (b : ℕ) (rest : List ℕ) → is_text (b ∷ rest) ≡ true → IsUtf8 (b ∷ rest) → IsUtf8 (front word.Quoted false rest)
text_inside b rest h u =
    let parts = and_parts _ _ h in
    let small : b < 128 = omega (arith, eqb-true b 34 parts.0) in
    let inner : IsUtf8 rest = text_behind [] b rest small u in
    let cut : rest ≡ front word.Quoted false rest ++ 34 ∷ [] = sym (front-back word.Quoted false rest) ∙ ap (λ x. front word.Quoted false rest ++ x) (same_quote (back word.Quoted false rest) parts.1) in
    text_before (front word.Quoted false rest) 34 [] (omega arith) (subst IsUtf8 cut inner)

pub inside_text : (v : List ℕ) → is_text v ≡ true → IsUtf8 v → IsUtf8 (inside v)
inside_text [] h u = u
inside_text (b ∷ rest) h u = text_inside b rest h u
