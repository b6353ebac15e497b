-- Copies of a text, and texts in a row that are borrowed.
use Rattle.std.proofs.Common.{◌≡◌, ℕ, zero, suc, ◌+◌, ◌-◌, ◌<◌, ◌≤◌, List, [], ◌∷◌, ◌++◌, length, take, drop, get_or, map, Bor, refl, sym, ap, ◌∙◌, append_assoc, arith}
use Rattle.std.specs.List.{flat_map, join_by, repeat}
use Rattle.std.proofs.Math.Seq.{take-length}
use Rattle.fx_ops.specs.Texts.{joined}

-- ---- copies

-- one copy more
pub copies_next : (text row whole : List ℕ) (count i : ℕ) → i < count → row ++ repeat (count - i) text ≡ whole → (row ++ text) ++ repeat (count - (i + 1)) text ≡ whole
copies_next text row whole count i within h =
    let n : count - i ≡ suc (count - (i + 1)) = omega arith in
    append_assoc row text (repeat (count - (i + 1)) text) ∙ ap (λ k. row ++ repeat k text) (sym n) ∙ h

pub copies_of_nothing : (count : ℕ) (text : List ℕ) → length text ≡ 0 → repeat count text ≡ []
copies_of_nothing count (byte ∷ text) e = absurd (omega arith)
copies_of_nothing zero [] e = refl
copies_of_nothing (suc count) [] e = copies_of_nothing count [] e

-- ---- rows of texts that are borrowed

flat_map-now : (by : List ℕ) (texts : List (Bor (List ℕ))) → flat_map (λ t. by ++ t.now) texts ≡ flat_map (λ t. by ++ t) (map (λ t. t.now) texts)
flat_map-now by [] = refl
flat_map-now by (text ∷ texts) = ap (λ rest. (by ++ text.now) ++ rest) (flat_map-now by texts)

pub join_by-now : (by : List ℕ) (texts : List (Bor (List ℕ))) → join_by (λ t. t.now) by texts ≡ join_by (λ t. t) by (map (λ t. t.now) texts)
join_by-now by [] = refl
join_by-now by (text ∷ texts) = ap (λ rest. text.now ++ rest) (flat_map-now by texts)

-- the separator comes before the texts
pub joined-now : (texts : List (Bor (List ℕ))) (d : Bor (List ℕ)) → 1 ≤ length texts
    → joined (map (λ t. t.now) texts) ≡ join_by (λ t. t.now) (get_or texts 0 d).now (take (length texts - 1) (drop 1 texts))
joined-now [] d some = absurd (omega arith)
joined-now (by ∷ texts) d some =
    let n : length (by ∷ texts) - 1 ≡ length texts = omega arith in
    let all : take (length (by ∷ texts) - 1) texts ≡ texts = ap (λ k. take k texts) n ∙ take-length texts in
    sym (join_by-now by.now texts) ∙ ap (join_by (λ t. t.now) by.now) (sym all)
