-- The values by time.
use Rattle.std.proofs.Common.{◌≡◌, ℤ, Bool, true, false, cond, List, [], ◌∷◌, map, filter, fold, Option, Some, refl, sym, ap, ◌∙◌}
use Rattle.std.specs.declared.cmp.Ordering.{Ordering}
use Rattle.std.specs.declared.cmp.Ordering.TheVariants.{Less, Equal, Greater}
use Rattle.std.specs.Ordering.{int_cmp, int_eq, is_eq, match_ordering, ordering_reverse}
use Rattle.std.specs.Cmp.{int_cmp_total, Equal-is}
use Rattle.std.specs.List.{AllByRecursion, last_or}
use Rattle.std.specs.List.Sorted.{IsStrictlySortedBy}
use Rattle.std.specs.Map.{keys_of}
use Rattle.std.specs.BTreeMap.{insert_entry}
use Rattle.std.proofs.lemmas.Bool.{cond-true, cond-false}
use Rattle.std.proofs.lemmas.List.Elements.{All-from_recursion, recursion_from_All, All-weaker}
use Rattle.std.proofs.lemmas.Map.Views.{All-keys-insert_entry}
use Rattle.fx_value.specs.declared.scalar.Scalar.{Scalar}
use Rattle.fx_line.specs.declared.point.Point.{Point}
use Rattle.fx_line.specs.Stored.{by_time}
use Rattle.fx_series.specs.Laws.{last_at, value_at}

abbrev Rises : List (ℤ × Scalar) → Type 0
Rises values = IsStrictlySortedBy int_cmp (keys_of values)

abbrev AllAfter : ℤ → List ℤ → Type 0
AllAfter time = AllByRecursion (λ t. int_cmp time t ≡ Less)

rises_by : (v : ℤ × Scalar) (values : List (ℤ × Scalar)) (time : ℤ) (value : Scalar) (o : Ordering) → int_cmp time v.0 ≡ o → Rises (v ∷ values)
    → Rises (insert_entry int_cmp values time value) → Rises (match_ordering o ((time, value) ∷ v ∷ values) ((v.0, value) ∷ values) (v ∷ insert_entry int_cmp values time value))
unfolding IsStrictlySortedBy
rises_by v values time value Less e h later =
    let after = All-weaker (λ t. int_cmp v.0 t ≡ Less) (λ t. int_cmp time t ≡ Less) (λ t g. int_cmp_total.trans time v.0 t e g) (keys_of values) (All-from_recursion _ (keys_of values) h.0) in
    ((e, recursion_from_All (λ t. int_cmp time t ≡ Less) (keys_of values) after), h)
rises_by v values time value Equal e h later = h
rises_by v values time value Greater e h later =
    let before : int_cmp v.0 time ≡ Less = int_cmp_total.antisymm v.0 time ∙ ap ordering_reverse e in
    let after = All-keys-insert_entry int_cmp time value (λ t. int_cmp v.0 t ≡ Less) values (All-from_recursion (λ t. int_cmp v.0 t ≡ Less) (keys_of values) h.0) before in
    (recursion_from_All (λ t. int_cmp v.0 t ≡ Less) (keys_of (insert_entry int_cmp values time value)) after, later)

rises-insert : (values : List (ℤ × Scalar)) (time : ℤ) (value : Scalar) → Rises values → Rises (insert_entry int_cmp values time value)
unfolding IsStrictlySortedBy
rises-insert [] time value h = (tt, tt)
rises-insert (v ∷ values) time value h = rises_by v values time value (int_cmp time v.0) refl h (rises-insert values time value h.1)

rises-fold : (values : List (ℤ × Scalar)) (points : List Point) → Rises values → Rises (fold (λ entries p. insert_entry int_cmp entries p.time p.value) values points)
rises-fold values [] h = h
rises-fold values (p ∷ points) h = rises-fold (insert_entry int_cmp values p.time p.value) points (rises-insert values p.time p.value h)

pub by_time-rises : (points : List Point) → Rises (by_time points)
unfolding IsStrictlySortedBy
by_time-rises points = rises-fold [] points tt

-- ---- the value at a time
same_answer : (at time other : ℤ) → int_cmp time other ≡ Equal → int_eq at other ≡ int_eq at time
same_answer at time other e =
    ap is_eq (int_cmp_total.antisymm at other ∙ ap ordering_reverse (sym (int_cmp_total.congr time other at e)) ∙ sym (int_cmp_total.antisymm at time))

other_answer : (at time other : ℤ) → int_cmp time other ≡ Greater → int_eq at other ≡ true → int_eq at time ≡ false
other_answer at time other e same =
    let equal = (Equal-is (int_cmp at other)).0 same in
    ap is_eq (int_cmp_total.congr at other time equal ∙ int_cmp_total.antisymm other time ∙ ap ordering_reverse e)

first_wins : {X : Type 0} (a b : Bool) (x y rest : X) → a ≡ b → cond a x rest ≡ cond b x (cond a y rest)
first_wins a true x y rest e = cond-true a x rest e
first_wins a false x y rest e = cond-false a x rest e ∙ sym (cond-false a y rest e)

either_first : {X : Type 0} (a b : Bool) (x y rest : X) → (a ≡ true → b ≡ false) → cond a y (cond b x rest) ≡ cond b x (cond a y rest)
either_first true b x y rest apart = sym (cond-false b x y (apart refl))
either_first false b x y rest apart = refl

value_by : (at : ℤ) (v : ℤ × Scalar) (values : List (ℤ × Scalar)) (time : ℤ) (value : Scalar) (o : Ordering) → int_cmp time v.0 ≡ o
    → value_at at (insert_entry int_cmp values time value) ≡ cond (int_eq at time) (Some value) (value_at at values)
    → value_at at (match_ordering o ((time, value) ∷ v ∷ values) ((v.0, value) ∷ values) (v ∷ insert_entry int_cmp values time value)) ≡ cond (int_eq at time) (Some value) (value_at at (v ∷ values))
value_by at v values time value Less e later = refl
value_by at v values time value Equal e later = first_wins (int_eq at v.0) (int_eq at time) (Some value) (Some v.1) (value_at at values) (same_answer at time v.0 e)
value_by at v values time value Greater e later =
    ap (λ r. cond (int_eq at v.0) (Some v.1) r) later ∙ either_first (int_eq at v.0) (int_eq at time) (Some value) (Some v.1) (value_at at values) (other_answer at time v.0 e)

value-insert : (at : ℤ) (values : List (ℤ × Scalar)) (time : ℤ) (value : Scalar) → value_at at (insert_entry int_cmp values time value) ≡ cond (int_eq at time) (Some value) (value_at at values)
value-insert at [] time value = refl
value-insert at (v ∷ values) time value = value_by at v values time value (int_cmp time v.0) refl (value-insert at values time value)

-- the values of the points of a time
abbrev values_at : ℤ → List Point → List Scalar
values_at at points = map (λ p. p.value) (filter (λ p. int_eq at p.time) points)

last_by : (at : ℤ) (p : Point) (points : List Point) (before : Option Scalar) (b : Bool) → int_eq at p.time ≡ b
    → last_or (cond (int_eq at p.time) (Some p.value) before) (values_at at points) ≡ last_or before (values_at at (p ∷ points))
last_by at p points before true e =
    ap (λ o. last_or o (values_at at points)) (cond-true (int_eq at p.time) _ _ e) ∙ sym (ap (λ l. last_or before (map (λ p. p.value) l)) (cond-true (int_eq at p.time) _ _ e))
last_by at p points before false e =
    ap (λ o. last_or o (values_at at points)) (cond-false (int_eq at p.time) _ _ e) ∙ sym (ap (λ l. last_or before (map (λ p. p.value) l)) (cond-false (int_eq at p.time) _ _ e))

value-fold : (at : ℤ) (values : List (ℤ × Scalar)) (points : List Point) → value_at at (fold (λ entries p. insert_entry int_cmp entries p.time p.value) values points) ≡ last_or (value_at at values) (values_at at points)
value-fold at values [] = refl
value-fold at values (p ∷ points) =
    value-fold at (insert_entry int_cmp values p.time p.value) points
    ∙ ap (λ o. last_or o (values_at at points)) (value-insert at values p.time p.value)
    ∙ last_by at p points (value_at at values) (int_eq at p.time) refl

pub value-by_time : (at : ℤ) (points : List Point) → value_at at (by_time points) ≡ last_at at points
value-by_time at points = value-fold at [] points
