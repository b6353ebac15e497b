-- Places of variables in lists.
use Rattle.std.proofs.Common.{◌≡◌, refl, sym, ap, subst, ◌∙◌, ℕ, zero, suc, ◌+◌, ◌≤◌, ◌<◌, Bool, true, false, List, [], ◌∷◌, ◌++◌, take, length, get_or, Option, None, Some, option_map, arith}
use Rattle.std.specs.Prelude.{if◌then◌else◌}
use mathlib.Core.Bool.{not}
use Rattle.std.proofs.lemmas.List.{take_more}
use Rattle.fx_types.proofs.Choices.{by_cases}
use Rattle.fx_types.proofs.Lists.{take_all}
use Rattle.fx_types.specs.Ground.{listed}
use Rattle.fx_types.specs.Term.{Label}
use Rattle.fx_unify.specs.Part.{p_slot}
use Rattle.fx_unify.proofs.LabelLaws.{not_before}
use Rattle.fx_unify.proofs.StoreLaws.{none_some, some_is}
use Rattle.fx_generalize.specs.declared.names.FieldName.{FieldName}
use Rattle.fx_generalize.specs.Named.{place, is_field}

none_only : {A : Type 0} (o : Option A) {B : Type 0} (f : A → B) → option_map f o ≡ None → o ≡ None
none_only None f h = refl
none_only (Some x) f h = none_some (f x) (option_map f (Some x)) h refl

-- no item passes: neither the first nor one behind it
none_apart : {A : Type 0} (test : A → Bool) (x : A) (xs : List A) → place test (x ∷ xs) ≡ None → (test x ≡ false) × (place test xs ≡ None)
none_apart test x xs h =
    by_cases (test x) (λ e. none_some 0 (place test (x ∷ xs)) h (ap (λ b. if b then Some 0 else option_map suc (place test xs)) e))
    (λ e. (e, none_only (place test xs) suc (sym (ap (λ b. if b then Some 0 else option_map suc (place test xs)) e) ∙ h)))

none_both : {A : Type 0} (test : A → Bool) (x : A) (xs : List A) → test x ≡ false → place test xs ≡ None → place test (x ∷ xs) ≡ None
none_both test x xs e h = ap (λ b. if b then Some 0 else option_map suc (place test xs)) e ∙ ap (option_map suc) h

pub place_hit : {A : Type 0} (test : A → Bool) (xs : List A) (i : ℕ) (x : A) → i < length xs → x ≡ get_or xs i x → test x ≡ true → place test (take i xs) ≡ None → place test xs ≡ Some i
place_hit test [] i x lt at hit none = absurd (omega arith)
place_hit test (y ∷ ys) zero x lt at hit none = ap (λ b. if b then Some 0 else option_map suc (place test ys)) (subst (λ z. test z ≡ true) at hit)
place_hit test (y ∷ ys) (suc i) x lt at hit none =
    let apart : (test y ≡ false) × (place test (take i ys) ≡ None) = none_apart test y (take i ys) none in
    ap (λ b. if b then Some 0 else option_map suc (place test ys)) apart.0 ∙ ap (option_map suc) (place_hit test ys i x (omega arith) at hit apart.1)

none_last : {A : Type 0} (test : A → Bool) (xs : List A) (x : A) → place test xs ≡ None → test x ≡ false → place test (xs ++ x ∷ []) ≡ None
none_last test [] x h e = none_both test x [] e refl
none_last test (y ∷ ys) x h e = let apart : (test y ≡ false) × (place test ys ≡ None) = none_apart test y ys h in none_both test y (ys ++ x ∷ []) apart.0 (none_last test ys x apart.1 e)

pub place_miss : {A : Type 0} (test : A → Bool) (xs : List A) (i : ℕ) (x : A) → i < length xs → x ≡ get_or xs i x → test x ≡ false → place test (take i xs) ≡ None → place test (take (i + 1) xs) ≡ None
place_miss test xs i x lt at miss none =
    ap (place test) (take_more xs i x lt ∙ ap (λ d. take i xs ++ d ∷ []) (sym at)) ∙ none_last test (take i xs) x none miss

pub place_none : {A : Type 0} (test : A → Bool) (xs : List A) (i : ℕ) → length xs ≤ i → place test (take i xs) ≡ None → place test xs ≡ None
place_none test xs i le none = ap (place test) (sym (take_all xs i le)) ∙ none

-- the item at a place passes
pub passes : {A : Type 0} (test : A → Bool) (xs : List A) (i : ℕ) (d : A) → place test xs ≡ Some i → test (get_or xs i d) ≡ true
passes test [] i d h = none_some i (place test []) refl h
passes test (x ∷ xs) i d h =
    by_cases (test x) (λ e. first i (sym (ap (λ b. if b then Some 0 else option_map suc (place test xs)) e) ∙ h) e)
    (λ e. later (place test xs) i refl (sym (ap (λ b. if b then Some 0 else option_map suc (place test xs)) e) ∙ h) (λ j. passes test xs j d))
  where
    first : (i : ℕ) → Some 0 ≡ Some i → test x ≡ true → test (get_or (x ∷ xs) i d) ≡ true
    first i h e = subst (λ j. test (get_or (x ∷ xs) j d) ≡ true) (some_is 0 i h) e

    later : (o : Option ℕ) (i : ℕ) → place test xs ≡ o → option_map suc o ≡ Some i → ((j : ℕ) → place test xs ≡ Some j → test (get_or xs j d) ≡ true) → test (get_or (x ∷ xs) i d) ≡ true
    later None i e h more = none_some i None refl h
    later (Some j) i e h more = subst (λ k. test (get_or (x ∷ xs) k d) ≡ true) (some_is (suc j) i h) (more j e)

-- and it stands in the list
pub place_below : {A : Type 0} (test : A → Bool) (xs : List A) (i : ℕ) → place test xs ≡ Some i → i < length xs
place_below test [] i h = none_some i (place test []) refl h
place_below test (x ∷ xs) i h =
    by_cases (test x) (λ e. first i (sym (ap (λ b. if b then Some 0 else option_map suc (place test xs)) e) ∙ h))
    (λ e. later (place test xs) i refl (sym (ap (λ b. if b then Some 0 else option_map suc (place test xs)) e) ∙ h) (λ j. place_below test xs j))
  where
    first : (i : ℕ) → Some 0 ≡ Some i → i < length (x ∷ xs)
    first i h = let same : 0 ≡ i = some_is 0 i h in omega arith

    later : (o : Option ℕ) (i : ℕ) → place test xs ≡ o → option_map suc o ≡ Some i → ((j : ℕ) → place test xs ≡ Some j → j < length xs) → i < length (x ∷ xs)
    later None i e h more = none_some i None refl h
    later (Some j) i e h more = let less : j < length xs = more j e in let same : suc j ≡ i = some_is (suc j) i h in omega arith

pub named_step : (row : ℕ) (fs : List FieldName) (i : ℕ) (x : FieldName) (ls ms : List Label) → i < length fs → x ≡ get_or fs i x → ((l : Label) → listed l ls ≡ true → listed l ms ≡ true)
    → ((l : Label) → listed l ms ≡ false → is_field (p_slot row l) x ≡ false) → ((l : Label) → listed l ls ≡ false → place (is_field (p_slot row l)) (take i fs) ≡ None)
    → (l : Label) → listed l ms ≡ false → place (is_field (p_slot row l)) (take (i + 1) fs) ≡ None
named_step row fs i x ls ms lt at more there h l off = place_miss (is_field (p_slot row l)) fs i x lt at (there l off) (h l (not_before ls ms l more off))

pub named_all : (row : ℕ) (fs : List FieldName) (i : ℕ) (ms : List Label) → length fs ≤ i → ((l : Label) → listed l ms ≡ false → place (is_field (p_slot row l)) (take i fs) ≡ None)
    → (l : Label) → listed l ms ≡ false → place (is_field (p_slot row l)) fs ≡ None
named_all row fs i ms le h l off = place_none (is_field (p_slot row l)) fs i le (h l off)

pub not_true : (b : Bool) → not b ≡ true → b ≡ false
not_true true h = sym h
not_true false h = refl
