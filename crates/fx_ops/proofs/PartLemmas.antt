-- A search from the left finds the parts of a text.
use Rattle.std.proofs.Common.{◌≡◌, ℕ, zero, suc, ◌-◌, ◌<◌, ◌≤◌, List, [], ◌∷◌, ◌++◌, length, take, drop, map, inl, inr, Bor, refl, sym, ap, ◌∙◌, arith, length-append, append_assoc, append-nil}
use Rattle.std.specs.Prelude.{IfOk, IsTrue, Result, Ok, Err}
use Rattle.std.specs.List.{flat_map, join_by, list_all}
use Rattle.std.proofs.Math.Dec.{eqb-suc-zero}
use Rattle.std.specs.Str.Pattern.{LacksTextAt}
use Rattle.fx_ops.specs.Answer.{Gives}
use Rattle.fx_ops.specs.Limit.{is_short}
use Rattle.fx_ops.specs.Parts.{in_first, parts_past, parts, all_limited}
use Rattle.fx_ops.specs.Texts.{replaced}
use Rattle.fx_ops.specs.declared.fault.OpFault.{OpFault}
use Rattle.fx_ops.proofs.TextLemmas.{begins, bool_tells}

-- a separator is passed byte by byte
passed : (by front rest : List ℕ) → parts_past by (length front) (front ++ rest) ≡ parts_past by 0 rest
unfolding parts_past
passed by [] rest = refl
passed by (byte ∷ front) rest = passed by front rest

behind : (by : List ℕ) (byte : ℕ) (text rest : List ℕ) → 0 < length by → byte ∷ text ≡ by ++ rest → parts_past by (length by - 1) text ≡ parts_past by 0 rest
behind [] byte text rest some e = absurd (omega arith)
behind (first ∷ by) byte text rest some e =
    let is : text ≡ by ++ rest = cc in
    let n : length (first ∷ by) - 1 ≡ length by = omega arith in
    (λ i. parts_past (first ∷ by) (n i) (is i)) ∙ passed (first ∷ by) by rest

none_in_nothing : (by rest : List ℕ) → 0 < length by → [] ≡ by ++ rest → ⊥
none_in_nothing by rest some e = let n = ap length e in omega (arith, simp length-append at n)

-- the first part ends where the separator first stands
pub parts-found : (by text : List ℕ) (i : ℕ) (rest : List ℕ) → 0 < length by → ((k : ℕ) → k < i → LacksTextAt by text k) → drop i text ≡ by ++ rest
    → parts_past by 0 text ≡ take i text ∷ parts_past by 0 rest
unfolding parts_past
parts-found by [] zero rest some lacks e = absurd (none_in_nothing by rest some e)
parts-found by [] (suc i) rest some lacks e = absurd (none_in_nothing by rest some e)
parts-found by (byte ∷ text) zero rest some lacks e = elim (begins (byte ∷ text) by) [
  | inl hit ↦ rw hit.0 (ap (λ parts. [] ∷ parts) (behind by byte text rest some e))
  | inr miss ↦ absurd (miss.1 rest e)
]
parts-found by (byte ∷ text) (suc i) rest some lacks e = elim (begins (byte ∷ text) by) [
  | inl hit ↦ absurd (lacks 0 (omega arith) (drop (length by) (byte ∷ text)) hit.1)
  | inr miss ↦ rw miss.0 (ap (in_first byte) (parts-found by text i rest some (λ k h. lacks (suc k) (omega arith)) e))
]

-- and where it stands nowhere, the text is one part
pub parts-lacking : (by text : List ℕ) → ((k : ℕ) → k ≤ length text → LacksTextAt by text k) → parts_past by 0 text ≡ text ∷ []
unfolding parts_past
parts-lacking by [] lacks = refl
parts-lacking by (byte ∷ text) lacks = elim (begins (byte ∷ text) by) [
  | inl hit ↦ absurd (lacks 0 (omega arith) (drop (length by) (byte ∷ text)) hit.1)
  | inr miss ↦ rw miss.0 (ap (in_first byte) (parts-lacking by text (λ k h. lacks (suc k) (omega arith))))
]

-- the bytes of a list of texts with one more
pub bytes_of_more : (texts : List (Bor (List ℕ))) (text : Bor (List ℕ)) → map (λ t. t.now) (texts ++ text ∷ []) ≡ map (λ t. t.now) texts ++ text.now ∷ []
bytes_of_more [] text = refl
bytes_of_more (first ∷ texts) text = ap (λ ts. first.now ∷ ts) (bytes_of_more texts text)

-- a part goes from what is left to what is found
pub one_more : (found more : List (Bor (List ℕ))) (part : Bor (List ℕ)) (left after whole : List (List ℕ)) → more ≡ found ++ part ∷ [] → left ≡ part.now ∷ after
    → map (λ t. t.now) found ++ left ≡ whole → map (λ t. t.now) more ++ after ≡ whole
one_more found more part left after whole items step is =
    rw items (rw (bytes_of_more found part) (rw append_assoc (ap (λ parts. map (λ t. t.now) found ++ parts) (sym step) ∙ is)))

-- ---- the parts with the separator between them are the text again

first_then : (by part : List ℕ) (parts : List (List ℕ)) → 0 < length parts → join_by (λ p. p) by (part ∷ parts) ≡ part ++ (by ++ join_by (λ p. p) by parts)
first_then by part [] some = absurd (omega arith)
first_then by part (next ∷ parts) some = ap (λ t. part ++ t) (append_assoc by next (flat_map (λ p. by ++ p) parts))

join_in_first : (by : List ℕ) (byte : ℕ) (parts : List (List ℕ)) → 0 < length parts → join_by (λ p. p) by (in_first byte parts) ≡ byte ∷ join_by (λ p. p) by parts
join_in_first by byte [] some = absurd (omega arith)
join_in_first by byte (part ∷ parts) some = refl

some_in_first : (byte : ℕ) (parts : List (List ℕ)) → 0 < length parts → 0 < length (in_first byte parts)
some_in_first byte [] some = absurd (omega arith)
some_in_first byte (part ∷ parts) some = omega arith

some_parts : (by : List ℕ) (n : ℕ) (text : List ℕ) → 0 < length (parts_past by n text)
unfolding parts_past
some_parts by n [] = omega arith
some_parts by (suc n) (byte ∷ text) = some_parts by n text
some_parts by zero (byte ∷ text) = elim (begins (byte ∷ text) by) [
  | inl hit ↦ rw hit.0 (omega arith)
  | inr miss ↦ rw miss.0 (some_in_first byte (parts_past by 0 text) (some_parts by 0 text))
]

drop_nothing : (n : ℕ) → drop {A = ℕ} n [] ≡ []
drop_nothing zero = refl
drop_nothing (suc n) = refl

behind_whole : (by : List ℕ) (byte : ℕ) (text : List ℕ) → 0 < length by → byte ∷ text ≡ by ++ drop (length by) (byte ∷ text) → by ++ drop (length by - 1) text ≡ byte ∷ text
behind_whole [] byte text some e = absurd (omega arith)
behind_whole (first ∷ by) byte text some e =
    let n : length (first ∷ by) - 1 ≡ length by = omega arith in
    ap (λ k. (first ∷ by) ++ drop k text) n ∙ sym e

past_whole : (by : List ℕ) (n : ℕ) (text : List ℕ) → 0 < length by → join_by (λ p. p) by (parts_past by n text) ≡ drop n text
unfolding parts_past
past_whole by n [] some = sym (drop_nothing n)
past_whole by (suc n) (byte ∷ text) some = past_whole by n text some
past_whole by zero (byte ∷ text) some = elim (begins (byte ∷ text) by) [
  | inl hit ↦ rw hit.0 (
      first_then by [] (parts_past by (length by - 1) text) (some_parts by (length by - 1) text)
      ∙ ap (λ t. by ++ t) (past_whole by (length by - 1) text some)
      ∙ behind_whole by byte text some hit.1
      )
  | inr miss ↦ rw miss.0 (join_in_first by byte (parts_past by 0 text) (some_parts by 0 text) ∙ ap (λ t. byte ∷ t) (past_whole by 0 text some))
]

pub parts-whole : (by text : List ℕ) → join_by (λ p. p) by (parts by text) ≡ text
parts-whole [] text = append-nil text
parts-whole (byte ∷ by) text = rw (eqb-suc-zero (length by)) (past_whole (byte ∷ by) 0 text (omega arith))

-- a text that is its one part has nothing to be replaced
pub one_part : (by text new : List ℕ) (found : List (Bor (List ℕ))) → length found ≡ 1 → map (λ t. t.now) found ≡ parts by text → replaced text by new ≡ text
one_part by text new [] one is = absurd (omega arith)
one_part by text new (part ∷ []) one is = ap (join_by (λ p. p) new) (sym is) ∙ ap (join_by (λ p. p) by) is ∙ parts-whole by text
one_part by text new (part ∷ next ∷ found) one is = absurd (omega arith)

-- parts that are not too long are the parts
pub limited-whole : (by text : List ℕ) (found : List (List ℕ)) (r : Result (List (List ℕ)) OpFault) → found ≡ parts by text → Gives (all_limited found) r
    → IfOk r (λ texts. join_by (λ p. p) by texts ≡ text)
limited-whole by text found (Err fault) is gives = tt
limited-whole by text found (Ok texts) is gives = elim (bool_tells (list_all is_short found)) [
  | inl short ↦ let same : found ≡ texts = (let e = rw short at gives in cc) in ap (join_by (λ p. p) by) (sym same ∙ is) ∙ parts-whole by text
  | inr long ↦ let e = rw long at gives in absurd cc
]

-- none of the parts that are answered is too long
pub limited-short : (found : List (List ℕ)) (r : Result (List (List ℕ)) OpFault) → Gives (all_limited found) r → IfOk r (λ texts. IsTrue (list_all is_short texts))
limited-short found (Err fault) gives = tt
limited-short found (Ok texts) gives = elim (bool_tells (list_all is_short found)) [
  | inl short ↦ let same : found ≡ texts = (let e = rw short at gives in cc) in ap (list_all is_short) (sym same) ∙ short
  | inr long ↦ let e = rw long at gives in absurd cc
]
