-- Texts that are cut at a byte or behind a front.
use Rattle.std.proofs.Common.{◌≡◌, ◌≢◌, ℕ, zero, suc, get_or, ◌+◌, ◌<◌, ◌≤◌, Bool, true, false, ◌==◌, ◌&&◌, ◌||◌, not, cond, List, [], ◌∷◌, ◌++◌, length, take, drop, refl, sym, ◌∙◌, ap, arith, add_comm, add-one, nat_eq, Option, None, Some, take-append-drop}
use Rattle.std.proofs.Math.Seq.{take-append_seam, drop-append_seam}
use Rattle.std.proofs.lemmas.Grind.{common_steps}
use Rattle.std.proofs.lemmas.Bool.{eqb-true, or_from, false_from_ne_true}
use Rattle.std.specs.List.{list_any, position_or_len, before_first, after_first}
use Rattle.std.specs.Option.{MatchOption, IfSome, IfNone}
use Rattle.std.specs.Cmp.Lexicographic.{pointwise, same_text, other_text}
use denote.Ref.{Bor}
use Rattle.fx_load.specs.Bytes.{IsFreeOf, lines_of, with_first, begins_with_feed, is_empty, without_return}

-- two texts with one front have one rest
pub same_rest : (front a b : List ℕ) → front ++ a ≡ front ++ b → a ≡ b
same_rest [] a b h = h
same_rest (x ∷ front) a b h = same_rest front a b cc

-- a text that begins with a front goes on with what is left behind it
pub rest_is : (front rest : List ℕ) → drop (length front) (front ++ rest) ≡ rest
rest_is front rest = drop-append_seam front rest

-- a text is cut in one way at the first b
pub same_cut : (b : ℕ) (front front' back back' : List ℕ) → IsFreeOf b front → IsFreeOf b front' → front ++ b ∷ back ≡ front' ++ b ∷ back' → (front ≡ front') × (back ≡ back')
same_cut b [] [] back back' f f' h = (refl, cc)
same_cut b [] (y ∷ front') back back' f f' h = absurd (grind (arith, common_steps, f', h))
same_cut b (x ∷ front) [] back back' f f' h = absurd (grind (arith, common_steps, f, h))
same_cut b (x ∷ front) (y ∷ front') back back' f f' h =
    let free : IsFreeOf b front = grind (arith, common_steps, f) in
    let free' : IsFreeOf b front' = grind (arith, common_steps, f') in
    let tails : front ++ b ∷ back ≡ front' ++ b ∷ back' = cc in
    let same = same_cut b front front' back back' free free' tails in
    let firsts : x ≡ y = cc in
    ((let fronts = same.0 in cc), same.1)

-- a text that is free of b isn't cut at it
pub not_cut : (b : ℕ) (front back : List ℕ) → IsFreeOf b (front ++ b ∷ back) → ⊥
not_cut b [] back h = grind (arith, common_steps, h)
not_cut b (x ∷ front) back h =
    let free : IsFreeOf b (front ++ b ∷ back) = grind (arith, common_steps, h) in
    not_cut b front back free

parts_at : (b x : ℕ) (text : List ℕ) (here : Bool) (n : ℕ) → (x == b) ≡ here
    → (n < length text → (text ≡ take n text ++ b ∷ drop (n + 1) text) × IsFreeOf b (take n text))
    → cond (not here) (1 + n) 0 < length (x ∷ text)
    → (x ∷ text ≡ take (cond (not here) (1 + n) 0) (x ∷ text) ++ b ∷ drop (cond (not here) (1 + n) 0 + 1) (x ∷ text)) × IsFreeOf b (take (cond (not here) (1 + n) 0) (x ∷ text))
parts_at b x text true n e step h = let is : x ≡ b = eqb-true x b e in (rw is refl, refl)
parts_at b x text false n e step h =
    let below : n < length text = omega arith in
    let parts = step below in
    let whole : x ∷ text ≡ take (1 + n) (x ∷ text) ++ b ∷ drop (1 + n + 1) (x ∷ text) = rw (add_comm 1 n, add-one, add-one) (ap (λ t. x ∷ t) (rw add-one at parts.0)) in
    let free : IsFreeOf b (take (1 + n) (x ∷ text)) = rw (add_comm 1 n, add-one, e) parts.1 in
    (whole, free)

-- the first b parts a text that holds one
pub first_parts : (b : ℕ) (text : List ℕ) → position_or_len (λ a. a == b) text < length text → (text ≡ before_first (λ a. a == b) text ++ b ∷ after_first (λ a. a == b) text) × IsFreeOf b (before_first (λ a. a == b) text)
first_parts b [] h = absurd (omega arith)
first_parts b (x ∷ text) h = parts_at b x text (x == b) (position_or_len (λ a. a == b) text) refl (first_parts b text) h

none_at : (b x : ℕ) (text : List ℕ) (here : Bool) → (x == b) ≡ here
    → (position_or_len (λ a. a == b) text ≡ length text → IsFreeOf b text)
    → cond (not here) (1 + position_or_len (λ a. a == b) text) 0 ≡ length (x ∷ text) → IsFreeOf b (x ∷ text)
none_at b x text true e step h = absurd (omega arith)
none_at b x text false e step h = let n : position_or_len (λ a. a == b) text ≡ length text = omega arith in rw e (step n)

pub none_first : (b : ℕ) (text : List ℕ) → position_or_len (λ a. a == b) text ≡ length text → IsFreeOf b text
none_first b [] h = refl
none_first b (x ∷ text) h = none_at b x text (x == b) refl (none_first b text) h

-- what a stripped front tells of the rest
pub behind : (text front : List ℕ) (r : Option (Bor (List ℕ)))
    → MatchOption r (pointwise nat_eq (take (length front) text) front ≡ false) (λ x. (pointwise nat_eq (take (length front) text) front ≡ true) × (x.now ≡ drop (length front) text) × (length x.now + length front ≡ length text))
    → IfSome r (λ rest. text ≡ front ++ rest.now) × IfNone r ((rest : List ℕ) → text ≢ front ++ rest)
behind text front None h = (tt, λ rest e. other_text (take (length front) text) front (sym h) (rw (e, take-append_seam) refl))
behind text front (Some x) h = (rw h.1 (sym (take-append-drop (length front) text) ∙ ap (λ t. t ++ drop (length front) text) (same_text (take (length front) text) front (sym h.0))), tt)

free_here : (b x : ℕ) (rest : List ℕ) → IsFreeOf b (x ∷ rest) → ((x == b) ≡ false) × IsFreeOf b rest
free_here b x rest h = parts (x == b) (list_any (λ a. a == b) rest) h
  where
    parts : (p q : Bool) → (p || q) ≡ false → (p ≡ false) × (q ≡ false)
    parts true q e = absurd (cc)
    parts false q e = (refl, e)

no_return : (b c : Bool) → c ≡ false → (b && c) ≡ false
no_return true c e = e
no_return false c e = refl

-- the first line ends at the first line feed
pub lines_of-cut : (line rest : List ℕ) → IsFreeOf 10 line → lines_of (line ++ 10 ∷ rest) ≡ without_return line ∷ lines_of rest
lines_of-cut [] rest h = refl
lines_of-cut (x ∷ []) rest h =
    let here = free_here 10 x [] h in
    ap (λ t. cond t ([] ∷ lines_of (10 ∷ rest)) (cond ((x == 13) && true) (lines_of (10 ∷ rest)) (with_first x (lines_of (10 ∷ rest))))) here.0
    ∙ elim (x == 13) as (λ t. cond (t && true) ([] ∷ lines_of rest) ((x ∷ []) ∷ lines_of rest) ≡ cond (t && true) [] (x ∷ []) ∷ lines_of rest) [
      | true ↦ refl
      | false ↦ refl
    ]
lines_of-cut (x ∷ y ∷ line) rest h =
    let here = free_here 10 x (y ∷ line) h in
    let later = free_here 10 y line here.1 in
    let more : List ℕ = (y ∷ line) ++ 10 ∷ rest in
    ap (λ t. cond t ([] ∷ lines_of more) (cond ((x == 13) && (y == 10)) (lines_of more) (with_first x (lines_of more)))) here.0
    ∙ ap (λ t. cond t (lines_of more) (with_first x (lines_of more))) (no_return (x == 13) (y == 10) later.0)
    ∙ ap (with_first x) (lines_of-cut (y ∷ line) rest here.1)
    ∙ ap (λ t. cond t [] (x ∷ without_return (y ∷ line)) ∷ lines_of rest) (sym (no_return (x == 13) false refl))

-- a text without a line feed is one line
no_feed : (text : List ℕ) → IsFreeOf 10 text → begins_with_feed text ≡ false
no_feed [] h = refl
no_feed (x ∷ text) h = (free_here 10 x text h).0

pub lines_of-end : (text : List ℕ) → IsFreeOf 10 text → lines_of text ≡ text ∷ []
lines_of-end [] h = refl
lines_of-end (x ∷ text) h =
    let here = free_here 10 x text h in
    ap (λ t. cond t ([] ∷ lines_of text) (cond ((x == 13) && begins_with_feed text) (lines_of text) (with_first x (lines_of text)))) here.0
    ∙ ap (λ t. cond t (lines_of text) (with_first x (lines_of text))) (no_return (x == 13) (begins_with_feed text) (no_feed text here.1))
    ∙ ap (with_first x) (lines_of-end text here.1)

-- a carriage return at the end
pub return_off : (r : List ℕ) → without_return (r ++ 13 ∷ []) ≡ r
return_off [] = refl
return_off (b ∷ []) =
    elim (b == 13) as (λ t. cond (t && false) [] (b ∷ []) ≡ b ∷ []) [
      | true ↦ refl
      | false ↦ refl
    ]
return_off (b ∷ c ∷ r) =
    ap (λ t. cond t [] (b ∷ without_return ((c ∷ r) ++ 13 ∷ []))) (no_return (b == 13) false refl) ∙ ap (λ x. b ∷ x) (return_off (c ∷ r))

pub no_return_off : (r : List ℕ) → ((s : List ℕ) → r ≡ s ++ 13 ∷ [] → ⊥) → without_return r ≡ r
no_return_off [] none = refl
no_return_off (b ∷ []) none =
    elim (b == 13) as (λ t. (b == 13) ≡ t → cond (t && true) [] (b ∷ []) ≡ b ∷ []) [
      | true ↦ λ e. let same : b ≡ 13 = eqb-true b 13 e in absurd (none [] (ap (λ x. x ∷ []) same))
      | false ↦ λ e. refl
    ] refl
no_return_off (b ∷ c ∷ r) none =
    ap (λ t. cond t [] (b ∷ without_return (c ∷ r))) (no_return (b == 13) false refl)
    ∙ ap (λ x. b ∷ x) (no_return_off (c ∷ r) (λ s e. none (b ∷ s) (ap (λ x. b ∷ x) e)))

pub return_short : (r : List ℕ) → length (without_return r) ≤ length r
return_short [] = omega arith
return_short (b ∷ r) =
    elim ((b == 13) && is_empty r) as (λ t. length (cond t [] (b ∷ without_return r)) ≤ length (b ∷ r)) [
      | true ↦ omega arith
      | false ↦ omega (arith, return_short r)
    ]

-- what a search for a byte tells
pub free_before : (b : ℕ) (i : ℕ) (text : List ℕ) → ((k : ℕ) → k < i → (get_or text k 0 == b) ≡ true → ⊥) → IsFreeOf b (take i text)
free_before b zero text h = refl
free_before b (suc i) [] h = refl
free_before b (suc i) (x ∷ text) h = or_from (x == b) _ (false_from_ne_true (x == b) (h 0 (omega arith))) (free_before b i text (λ k below. h (suc k) (omega arith)))
