-- Items in an order in which equal ones stand as they do in another list.
use Rattle.std.proofs.Common.{◌≡◌, ℕ, suc, ◌+◌, ◌<◌, Bool, true, false, T, List, [], ◌∷◌, length, get_or, refl, sym, ap, subst, ◌∙◌, arith}
use Rattle.std.proofs.lemmas.List.Sorted.{sorted_far}
use Rattle.std.specs.Prelude.{cond, not, ◌&&◌}
use Rattle.std.specs.Cmp.{IsStrictWeakOrder}
use Rattle.std.specs.List.{AllByRecursion, filter}
use Rattle.std.specs.List.Sorted.{IsSortedBy, ties}

abbrev rest_of : {X : Type 0} → List X → List X
rest_of [] = []
rest_of (x ∷ xs) = xs

abbrev first_or : {X : Type 0} → X → List X → X
first_or d [] = d
first_or d (x ∷ xs) = x

false_true : {A : Type 0} → false ≡ true → A
false_true e = absurd (subst T (sym e) tt)

neither : (a b : Bool) → (not a && not b) ≡ true → (a ≡ false) × (b ≡ false)
neither true b e = false_true e
neither false true e = false_true e
neither false false e = (refl, refl)

none_some : {X : Type 0} (x : X) (xs : List X) {A : Type 0} → [] ≡ x ∷ xs → A
none_some x xs e = cc

module _ {X : Type 0} (lt : X → X → Bool) (o : IsStrictWeakOrder lt) where
  -- none of the items is below this one
  abbrev pub NoneBelow : X → List X → Type 0
  NoneBelow x = AllByRecursion (λ y. lt y x ≡ false)

  -- none of the items is below one before it
  abbrev pub Ordered : List X → Type 0
  Ordered [] = Unit {0}
  Ordered (x ∷ xs) = NoneBelow x xs × Ordered xs

  none_below : (x : X) (xs : List X) → ((j : ℕ) (d : X) → j < length xs → lt (get_or xs j d) x ≡ false) → NoneBelow x xs
  none_below x [] h = tt
  none_below x (y ∷ xs) h = (h 0 y (omega arith), none_below x xs (λ j d below. h (suc j) d (omega arith)))

  pub ordered : (xs : List X) → IsSortedBy lt xs → Ordered xs
  ordered [] sorted = tt
  ordered (x ∷ xs) sorted = (
    none_below x xs (λ j d below. sorted_far lt o (x ∷ xs) sorted 0 (suc j) d (omega arith) (omega arith)),
    ordered xs (λ k d low high. let next : suc k + 1 ≡ suc (k + 1) = omega arith in subst (λ n. lt (get_or (x ∷ xs) n d) (get_or xs k d) ≡ false) next (sorted (suc k) d (omega arith) (omega arith))),
  )

  -- ---- ties

  not_below_itself : (x : X) (b : Bool) → b ≡ lt x x → lt x x ≡ false
  not_below_itself x true is = o.one_way x x (sym is)
  not_below_itself x false is = sym is

  ties_itself : (x : X) → ties lt x x ≡ true
  ties_itself x = let e = not_below_itself x (lt x x) refl in λ i. not (e i) && not (e i)

  same_below : (x y z : X) → lt x y ≡ false → lt y x ≡ false → (a b : Bool) → a ≡ lt x z → b ≡ lt y z → lt x z ≡ lt y z
  same_below x y z h g true true p q = sym p ∙ q
  same_below x y z h g true false p q = o.chain x y z h (sym q) ∙ q
  same_below x y z h g false b p q = sym p ∙ sym (o.chain y x z g (sym p))

  same_above : (x y z : X) → lt x y ≡ false → lt y x ≡ false → (a b : Bool) → a ≡ lt z x → b ≡ lt z y → lt z x ≡ lt z y
  same_above x y z h g true true p q = sym p ∙ q
  same_above x y z h g true false p q = o.chain z y x (sym q) g ∙ q
  same_above x y z h g false b p q = sym p ∙ sym (o.chain z x y (sym p) h)

  -- what ties with one of two that tie ties with the other
  pub ties_with : (x y z : X) → lt x y ≡ false → lt y x ≡ false → ties lt x z ≡ ties lt y z
  ties_with x y z h g =
      let below = same_below x y z h g (lt x z) (lt y z) refl refl in
      let above = same_above x y z h g (lt z x) (lt z y) refl refl in
      λ i. not (below i) && not (above i)

  -- ---- one list

  -- where an item ties with one of these, it is not below what none of them is below
  reaches : (y z : X) (zs : List X) (x : X) (xs : List X) → NoneBelow z zs → filter (ties lt y) zs ≡ x ∷ xs → lt y z ≡ false
  reaches y z [] x xs h is = none_some x xs is
  reaches y z (w ∷ zs) x xs h is = at (ties lt y w) refl is (reaches y z zs x xs h.1)
    where
      at : (b : Bool) → b ≡ ties lt y w → cond b (w ∷ filter (ties lt y) zs) (filter (ties lt y) zs) ≡ x ∷ xs → (filter (ties lt y) zs ≡ x ∷ xs → lt y z ≡ false) → lt y z ≡ false
      at true b e rest = o.chain y w z (neither (lt y w) (lt w y) (sym b)).0 h.0
      at false b e rest = rest e

  -- the first of items in order is not above one that ties with some of them
  reaches_first : (y z : X) (zs : List X) (x : X) (xs : List X) → NoneBelow z zs → filter (ties lt y) (z ∷ zs) ≡ x ∷ xs → lt y z ≡ false
  reaches_first y z zs x xs h is = at (ties lt y z) refl is
    where
      at : (b : Bool) → b ≡ ties lt y z → cond b (z ∷ filter (ties lt y) zs) (filter (ties lt y) zs) ≡ x ∷ xs → lt y z ≡ false
      at true b e = (neither (lt y z) (lt z y) (sym b)).0
      at false b e = reaches y z zs x xs h e

  itself : (y : X) (ys : List X) → filter (ties lt y) (y ∷ ys) ≡ y ∷ filter (ties lt y) ys
  itself y ys = ap (λ b. cond b (y ∷ filter (ties lt y) ys) (filter (ties lt y) ys)) (ties_itself y)

  abbrev SameTies : List X → List X → Type 0
  SameTies ys zs = (x : X) → filter (ties lt x) ys ≡ filter (ties lt x) zs

  module _ (y z : X) (ys zs : List X) (first : NoneBelow y ys) (second : NoneBelow z zs) (same : SameTies (y ∷ ys) (z ∷ zs)) where
    y_z : lt y z ≡ false
    y_z = reaches_first y z zs y (filter (ties lt y) ys) second (sym (same y) ∙ itself y ys)

    z_y : lt z y ≡ false
    z_y = reaches_first z y ys z (filter (ties lt z) zs) first (same z ∙ itself z zs)

    ties_both : ties lt y z ≡ true
    ties_both = λ i. not (y_z i) && not (z_y i)

    heads : y ≡ z
    heads =
        ap (first_or y) (sym (itself y ys) ∙ same y ∙ ap (λ b. cond b (z ∷ filter (ties lt y) zs) (filter (ties lt y) zs)) ties_both)

    tails : SameTies ys zs
    tails x = at (ties lt x y) refl
      where
        at : (b : Bool) → b ≡ ties lt x y → filter (ties lt x) ys ≡ filter (ties lt x) zs
        at true b =
            ap rest_of (ap (λ c. cond c (y ∷ filter (ties lt x) ys) (filter (ties lt x) ys)) b ∙ same x
            ∙ ap (λ c. cond c (z ∷ filter (ties lt x) zs) (filter (ties lt x) zs)) (ap (ties lt x) (sym heads) ∙ sym b))
        at false b =
            ap (λ c. cond c (y ∷ filter (ties lt x) ys) (filter (ties lt x) ys)) b ∙ same x
            ∙ ap (λ c. cond c (z ∷ filter (ties lt x) zs) (filter (ties lt x) zs)) (ap (ties lt x) (sym heads) ∙ sym b)

  -- items in order are told by the order of those that tie
  pub one_order : (ys zs : List X) → Ordered ys → Ordered zs → SameTies ys zs → ys ≡ zs
  one_order [] [] h g same = refl
  one_order [] (z ∷ zs) h g same = none_some z (filter (ties lt z) zs) (same z ∙ itself z zs)
  one_order (y ∷ ys) [] h g same = none_some y (filter (ties lt y) ys) (sym (same y) ∙ itself y ys)
  one_order (y ∷ ys) (z ∷ zs) h g same =
      λ i. heads y z ys zs h.0 g.0 same i ∷ one_order ys zs h.1 g.1 (tails y z ys zs h.0 g.0 same) i
