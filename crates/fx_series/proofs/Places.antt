-- What the numbers of the items that pass a test say.
use Rattle.std.proofs.Common.{◌≡◌, ℕ, suc, ◌+◌, ◌<◌, ◌≤◌, Bool, true, false, List, [], ◌∷◌, map, filter, length, Some, slice_get, All, refl, sym, ap, ◌∙◌, arith}
use Rattle.std.specs.declared.cmp.Ordering.TheVariants.{Less}
use Rattle.std.specs.Ordering.{nat_cmp}
use Rattle.std.specs.List.Sorted.{IsStrictlySortedBy}
use Rattle.std.proofs.lemmas.Bool.{cond_both, cond-true, cond-false, lt-ltb}
use Rattle.std.proofs.lemmas.List.Elements.{All-nil, All-cons, All-weaker, recursion_from_All}
use Rattle.fx_series.specs.Read.{places}

-- the numbers lie from `at` on, and below the length after it
abbrev LiesIn : ℕ → ℕ → ℕ → Type 0
LiesIn at end n = (at ≤ n) × (n < end)

ends : {X : Type 0} (test : X → Bool) (at : ℕ) (xs : List X) → All (LiesIn at (at + length xs)) (places test at xs)
ends test at [] = All-nil (LiesIn at (at + 0))
ends test at (x ∷ xs) =
    let later = All-weaker (LiesIn (at + 1) (at + 1 + length xs)) (LiesIn at (at + length (x ∷ xs))) (λ n h. (omega arith, omega arith)) (places test (at + 1) xs) (ends test (at + 1) xs) in
    cond_both (test x) (at ∷ places test (at + 1) xs) (places test (at + 1) xs) (All (LiesIn at (at + length (x ∷ xs))))
    (λ e. All-cons (LiesIn at (at + length (x ∷ xs))) at (places test (at + 1) xs) (omega arith, omega arith) later)
    (λ e. later)

pub places-within : {X : Type 0} (test : X → Bool) (xs : List X) → All (λ n. n < length xs) (places test 0 xs)
places-within test xs = All-weaker (LiesIn 0 (0 + length xs)) (λ n. n < length xs) (λ n h. omega (arith, h.1)) (places test 0 xs) (ends test 0 xs)

pub places-rise : {X : Type 0} (test : X → Bool) (at : ℕ) (xs : List X) → IsStrictlySortedBy nat_cmp (places test at xs)
unfolding IsStrictlySortedBy
places-rise test at [] = tt
places-rise test at (x ∷ xs) =
    let above = All-weaker (LiesIn (at + 1) (at + 1 + length xs)) (λ n. nat_cmp at n ≡ Less) (λ n h. cond-true _ _ _ (lt-ltb at n (omega (arith, h.0)))) (places test (at + 1) xs) (ends test (at + 1) xs) in
    cond_both (test x) (at ∷ places test (at + 1) xs) (places test (at + 1) xs) (IsStrictlySortedBy nat_cmp)
    (λ e. (recursion_from_All (λ n. nat_cmp at n ≡ Less) (places test (at + 1) xs) above, places-rise test (at + 1) xs))
    (λ e. places-rise test (at + 1) xs)

found_from : {X : Type 0} (test : X → Bool) (whole : List X) (at : ℕ) (xs : List X) → ((k : ℕ) → slice_get whole (at + k) ≡ slice_get xs k) → map (slice_get whole) (places test at xs) ≡ map (λ x. Some x) (filter test xs)
found_from test whole at [] h = refl
found_from {X} test whole at (x ∷ xs) h = by (test x) refl (found_from test whole (at + 1) xs)
  where
    here : slice_get whole at ≡ Some x
    here = ap (slice_get whole) (omega arith) ∙ h 0

    moved : (k : ℕ) → slice_get whole (at + 1 + k) ≡ slice_get xs k
    moved k = ap (slice_get whole) (omega arith) ∙ h (suc k)

    by : (b : Bool) → test x ≡ b → (((k : ℕ) → slice_get whole (at + 1 + k) ≡ slice_get xs k) → map (slice_get whole) (places test (at + 1) xs) ≡ map (λ x. Some x) (filter test xs)) → map (slice_get whole) (places test at (x ∷ xs)) ≡ map (λ x. Some x) (filter test (x ∷ xs))
    by true e later = ap (map (slice_get whole)) (cond-true (test x) _ _ e) ∙ (λ i. here i ∷ later moved i) ∙ sym (ap (map (λ x. Some x)) (cond-true (test x) _ _ e))
    by false e later = ap (map (slice_get whole)) (cond-false (test x) _ _ e) ∙ later moved ∙ sym (ap (map (λ x. Some x)) (cond-false (test x) _ _ e))

pub places-found : {X : Type 0} (test : X → Bool) (xs : List X) → map (slice_get xs) (places test 0 xs) ≡ map (λ x. Some x) (filter test xs)
places-found test xs = found_from test xs 0 xs (λ k. ap (slice_get xs) (omega arith))
