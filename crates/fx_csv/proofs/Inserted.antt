-- Keys that were inserted once add nothing when they are inserted again.
use Rattle.std.proofs.Common.{◌≡◌, ℕ, ◌+◌, ◌-◌, ◌<◌, List, [], ◌∷◌, ◌++◌, length, take, get_or, refl, ap, sym, ◌∙◌, arith, append-nil}
use Rattle.std.specs.List.{AllByRecursion, flat_map, fold}
use Rattle.std.specs.BTreeSet.{insert_key}
use Rattle.std.specs.declared.cmp.Ordering.{Ordering}
use Rattle.std.specs.declared.cmp.Ordering.TheVariants.{Less, Equal, Greater}
use Rattle.std.specs.Ordering.{match_ordering, ordering_reverse}
use Rattle.std.specs.Cmp.{IsTotalOrder, tied_itself}
use Rattle.std.proofs.lemmas.List.{take_more, flat_map_more}
use Rattle.std.proofs.lemmas.Grind.{fold-append}

module _ {K : Type 0} (R : K → K → Ordering) (o : IsTotalOrder R) where
  -- the key stands among the keys
  abbrev Stands : List K → K → Type 0
  Stands ks k = insert_key R ks k ≡ ks

  stands_inserted : (ks : List K) (k : K) → Stands (insert_key R ks k) k
  stands_inserted [] k = rw (tied_itself o k) refl
  stands_inserted (x ∷ xs) k =
      elim (R k x) as (λ r. R k x ≡ r → Stands (match_ordering r (k ∷ x ∷ xs) (x ∷ xs) (x ∷ insert_key R xs k)) k) [
        | Less ↦ λ e. rw (tied_itself o k) refl
        | Equal ↦ λ e. rw e refl
        | Greater ↦ λ e. rw e (ap (λ r. x ∷ r) (stands_inserted xs k))
      ] refl

  above : (j k x : K) → R j x ≡ Less → R k x ≡ Greater → R k j ≡ Greater
  above j k x a b =
      let back : R x k ≡ Less = o.antisymm x k ∙ ap ordering_reverse b in
      o.antisymm k j ∙ ap ordering_reverse (o.trans j x k a back)

  above_tied : (j k x : K) → R j x ≡ Less → R k x ≡ Equal → R k j ≡ Greater
  above_tied j k x a b = o.congr k x j b ∙ o.antisymm x j ∙ ap ordering_reverse a

  -- an insertion leaves each key where it stands
  stands_still : (ks : List K) (j k : K) → Stands ks k → Stands (insert_key R ks j) k
  stands_still [] j k h = absurd (omega (arith, ap length h))
  stands_still (x ∷ xs) j k h =
      elim (R k x) as (λ r. R k x ≡ r → match_ordering r (k ∷ x ∷ xs) (x ∷ xs) (x ∷ insert_key R xs k) ≡ x ∷ xs → Stands (insert_key R (x ∷ xs) j) k) [
        | Less ↦ λ e h. absurd (omega (arith, ap length h))
        | Equal ↦ λ e h.
            elim (R j x) as (λ r. R j x ≡ r → Stands (match_ordering r (j ∷ x ∷ xs) (x ∷ xs) (x ∷ insert_key R xs j)) k) [
              | Less ↦ λ d. rw (above_tied j k x d e, e) refl
              | Equal ↦ λ d. rw e refl
              | Greater ↦ λ d. rw e refl
            ] refl
        | Greater ↦ λ e h.
            let inside : insert_key R xs k ≡ xs = cc h in
            elim (R j x) as (λ r. R j x ≡ r → Stands (match_ordering r (j ∷ x ∷ xs) (x ∷ xs) (x ∷ insert_key R xs j)) k) [
              | Less ↦ λ d. rw (above j k x d e, e, inside) refl
              | Equal ↦ λ d. rw (e, inside) refl
              | Greater ↦ λ d. rw e (ap (λ r. x ∷ r) (stands_still xs j k inside))
            ] refl
      ] refl h

  all_stand_still : (ks js : List K) (k : K) → Stands ks k → Stands (fold (insert_key R) ks js) k
  all_stand_still ks [] k h = h
  all_stand_still ks (j ∷ js) k h = all_stand_still (insert_key R ks j) js k (stands_still ks j k h)

  -- some keys, all of which stand there
  abbrev AllStand : List K → List K → Type 0
  AllStand ks [] = Unit {0}
  AllStand ks (j ∷ js) = Stands ks j × AllStand ks js

  all_stand : (ks js : List K) → AllStand (fold (insert_key R) ks js) js
  all_stand ks [] = tt
  all_stand ks (j ∷ js) = (all_stand_still (insert_key R ks j) js j (stands_inserted ks j), all_stand (insert_key R ks j) js)

  unmoved : (ks js : List K) → AllStand ks js → fold (insert_key R) ks js ≡ ks
  unmoved ks [] h = refl
  unmoved ks (j ∷ js) h = rw h.0 (unmoved ks js h.1)

  pub inserted_again : (ks js : List K) → fold (insert_key R) (fold (insert_key R) ks js) js ≡ fold (insert_key R) ks js
  inserted_again ks js = unmoved (fold (insert_key R) ks js) js (all_stand ks js)

  module _ {X : Type 0} (f : X → List K) where
    -- one more item
    pub inserted_more : (ks : List K) (xs : List X) (i : ℕ) (x : X) → i < length xs → x ≡ get_or xs i x
        → fold (insert_key R) ks (flat_map f (take (i + 1) xs)) ≡ fold (insert_key R) (fold (insert_key R) ks (flat_map f (take i xs))) (f x)
    inserted_more ks xs i x h is =
        let one : take (i + 1) xs ≡ take i xs ++ x ∷ [] = take_more xs i x h ∙ ap (λ y. take i xs ++ y ∷ []) (sym is) in
        ap (λ l. fold (insert_key R) ks l) (ap (flat_map f) one ∙ sym (flat_map_more f [] (take i xs) x))
        ∙ fold-append (insert_key R) ks (flat_map f (take i xs)) (f x)

    -- an item that has the keys of the item before it adds none
    pub inserted_same : (ks : List K) (xs : List X) (i : ℕ) (x y : X) → 0 < i → i < length xs → x ≡ get_or xs i x → y ≡ get_or xs (i - 1) y → f x ≡ f y
        → fold (insert_key R) ks (flat_map f (take (i + 1) xs)) ≡ fold (insert_key R) ks (flat_map f (take i xs))
    inserted_same ks xs i x y some h is was same =
        let below : i - 1 < length xs = omega arith in
        let up : i - 1 + 1 ≡ i = omega arith in
        let before : fold (insert_key R) ks (flat_map f (take i xs)) ≡ fold (insert_key R) (fold (insert_key R) ks (flat_map f (take (i - 1) xs))) (f y)
        = ap (λ n. fold (insert_key R) ks (flat_map f (take n xs))) (sym up) ∙ inserted_more ks xs (i - 1) y below was in
        inserted_more ks xs i x h is
        ∙ ap (fold (insert_key R) (fold (insert_key R) ks (flat_map f (take i xs)))) same
        ∙ ap (λ l. fold (insert_key R) l (f y)) before
        ∙ inserted_again (fold (insert_key R) ks (flat_map f (take (i - 1) xs))) (f y)
        ∙ sym before

    none_added : (ks : List K) (x : X) (xs : List X) → AllByRecursion (λ y. f y ≡ f x) xs
        → fold (insert_key R) (fold (insert_key R) ks (f x)) (flat_map f xs) ≡ fold (insert_key R) ks (f x)
    none_added ks x [] h = refl
    none_added ks x (y ∷ xs) h =
        fold-append (insert_key R) (fold (insert_key R) ks (f x)) (f y) (flat_map f xs)
        ∙ ap (λ l. fold (insert_key R) l (flat_map f xs)) (ap (fold (insert_key R) (fold (insert_key R) ks (f x))) h.0 ∙ inserted_again ks (f x))
        ∙ none_added ks x xs h.1

    -- where all items have the keys of the first, the first adds them all
    pub inserted_alike : (ks : List K) (x : X) (xs : List X) → AllByRecursion (λ y. f y ≡ f x) xs
        → fold (insert_key R) ks (flat_map f (x ∷ [])) ≡ fold (insert_key R) ks (flat_map f (x ∷ xs))
    inserted_alike ks x xs h =
        ap (fold (insert_key R) ks) (append-nil (f x))
        ∙ sym (none_added ks x xs h)
        ∙ sym (fold-append (insert_key R) ks (f x) (flat_map f xs))
