-- How one more stored point changes the series.
use Rattle.std.proofs.Common.{◌≡◌, Bool, true, false, not, ◌||◌, List, [], ◌∷◌, ◌++◌, map, filter, if◌then◌else◌, refl, sym, ap, subst, ◌∙◌, append-nil}
use Rattle.std.specs.List.{list_any, AllByRecursion, IsDistinct}
use Rattle.std.proofs.lemmas.Bool.{false≢true, false_from_ne_true, not-true, or_parts, or_left, or_right, or_from, cond-true, cond-false}
use Rattle.std.proofs.lemmas.List.{map-append}
use Rattle.std.proofs.lemmas.List.Elements.{filter-append, filter_passes, All-weaker, All-filter, All-from_recursion, recursion_from_All}
use Rattle.std.proofs.lemmas.List.Sums.{fold-append}
use Rattle.std.proofs.lemmas.Map.Keys.{IsDistinct-head, IsDistinct-tail, IsDistinct-cons}
use Rattle.std.proofs.lemmas.Map.Views.{any-filter_same}
use Rattle.fx_line.specs.declared.point.Point.{Point}
use Rattle.fx_line.specs.Stored.{StoredPoint, SeriesId, same_id, id_of, first_seen, points_of, by_time, Series, series_of, grouped}
use Rattle.fx_series.specs.Held.{new_series, with_value, after_put}
use Rattle.fx_series.proofs.Same.{same_from, same_itself, other_way}

-- ---- the series, each once
filter_last_no : {X : Type 0} (p : X → Bool) (xs : List X) (x : X) → p x ≡ false → filter p (xs ++ x ∷ []) ≡ filter p xs
filter_last_no p xs x e = filter-append p xs (x ∷ []) ∙ ap (λ l. filter p xs ++ l) (cond-false (p x) (x ∷ []) [] e) ∙ append-nil (filter p xs)

filter_last_yes : {X : Type 0} (p : X → Bool) (xs : List X) (x : X) → p x ≡ true → filter p (xs ++ x ∷ []) ≡ filter p xs ++ x ∷ []
filter_last_yes p xs x e = filter-append p xs (x ∷ []) ∙ ap (λ l. filter p xs ++ l) (cond-true (p x) (x ∷ []) [] e)

abbrev pub insert_id : List SeriesId → SeriesId → List SeriesId
insert_id ids id = if list_any (same_id id) ids then ids else ids ++ id ∷ []

insert_there : (ids : List SeriesId) (id : SeriesId) → list_any (same_id id) ids ≡ true → insert_id ids id ≡ ids
insert_there ids id h = cond-true (list_any (same_id id) ids) ids (ids ++ id ∷ []) h

insert_new : (ids : List SeriesId) (id : SeriesId) → list_any (same_id id) ids ≡ false → insert_id ids id ≡ ids ++ id ∷ []
insert_new ids id h = cond-false (list_any (same_id id) ids) ids (ids ++ id ∷ []) h

-- the series other than a
abbrev other_than : SeriesId → SeriesId → Bool
other_than a b = not (same_id a b)

module _ (test : SeriesId → Bool) where
  any_other : (a : SeriesId) (t : Bool) → test a ≡ t → (rest : List SeriesId) → list_any test (a ∷ filter (other_than a) rest) ≡ (test a || list_any test rest)
  any_other a true e rest = or_left _ _ e ∙ sym (or_left _ _ e)
  any_other a false e rest =
      let apart : (k : SeriesId) → test k ≡ true → other_than a k ≡ true =
      λ k h. ap not (false_from_ne_true (same_id a k) (λ s. false≢true (sym e ∙ ap test (same_from a k s) ∙ h))) in
      ap (λ t. test a || t) (any-filter_same test (other_than a) true apart rest)

  pub any-first_seen : (ids : List SeriesId) → list_any test (first_seen ids) ≡ list_any test ids
  any-first_seen [] = refl
  any-first_seen (a ∷ rest) = any_other a (test a) refl (first_seen rest) ∙ ap (λ t. test a || t) (any-first_seen rest)

-- one more series behind those other than a
push_new : (a id : SeriesId) (seen : List SeriesId) (t : Bool) → same_id id a ≡ t → list_any (same_id id) seen ≡ false
    → a ∷ filter (other_than a) (seen ++ id ∷ []) ≡ insert_id (a ∷ filter (other_than a) seen) id
push_new a id seen true e h =
    let gone : other_than a id ≡ false = ap not (subst (λ j. same_id j id ≡ true) (same_from id a e) (same_itself id)) in
    ap (λ l. a ∷ l) (filter_last_no (other_than a) seen id gone) ∙ sym (insert_there (a ∷ filter (other_than a) seen) id (or_left _ _ e))
push_new a id seen false e h =
    let kept : other_than a id ≡ true = ap not (other_way id a e) in
    ap (λ l. a ∷ l) (filter_last_yes (other_than a) seen id kept) ∙ sym (insert_new (a ∷ filter (other_than a) seen) id (any_other (same_id id) a false e seen ∙ or_from _ _ e h))

push_among : (a id : SeriesId) (seen : List SeriesId) (t : Bool) → list_any (same_id id) seen ≡ t
    → a ∷ filter (other_than a) (insert_id seen id) ≡ insert_id (a ∷ filter (other_than a) seen) id
push_among a id seen true h =
    ap (λ l. a ∷ filter (other_than a) l) (insert_there seen id h) ∙ sym (insert_there (a ∷ filter (other_than a) seen) id (any_other (same_id id) a (same_id id a) refl seen ∙ or_right _ _ h))
push_among a id seen false h = ap (λ l. a ∷ filter (other_than a) l) (insert_new seen id h) ∙ push_new a id seen (same_id id a) refl h

pub first_seen-push : (ids : List SeriesId) (id : SeriesId) → first_seen (ids ++ id ∷ []) ≡ insert_id (first_seen ids) id
first_seen-push [] id = refl
first_seen-push (a ∷ rest) id = ap (λ l. a ∷ filter (other_than a) l) (first_seen-push rest id) ∙ push_among a id (first_seen rest) (list_any (same_id id) (first_seen rest)) refl

distinct_kept : (p : SeriesId → Bool) (a : SeriesId) (rest : List SeriesId) (t : Bool) → p a ≡ t → IsDistinct same_id (a ∷ rest) → IsDistinct same_id (filter p rest) → IsDistinct same_id (filter p (a ∷ rest))
distinct_kept p a rest true e h g =
    let apart = All-filter p (λ b. same_id a b ≡ false) rest (All-from_recursion (λ b. same_id a b ≡ false) rest (IsDistinct-head same_id a rest h)) in
    subst (IsDistinct same_id) (sym (cond-true (p a) (a ∷ filter p rest) (filter p rest) e)) (IsDistinct-cons same_id a (filter p rest) (recursion_from_All (λ b. same_id a b ≡ false) (filter p rest) apart) g)
distinct_kept p a rest false e h g = subst (IsDistinct same_id) (sym (cond-false (p a) (a ∷ filter p rest) (filter p rest) e)) g

distinct-filter : (p : SeriesId → Bool) (ids : List SeriesId) → IsDistinct same_id ids → IsDistinct same_id (filter p ids)
distinct-filter p [] h = h
distinct-filter p (a ∷ rest) h = distinct_kept p a rest (p a) refl h (distinct-filter p rest (IsDistinct-tail same_id a rest h))

pub first_seen-distinct : (ids : List SeriesId) → IsDistinct same_id (first_seen ids)
unfolding IsDistinct
first_seen-distinct [] = tt
first_seen-distinct (a ∷ rest) =
    let apart = All-weaker (λ b. other_than a b ≡ true) (λ b. same_id a b ≡ false) (λ b. not-true (same_id a b)) (filter (other_than a) (first_seen rest)) (filter_passes (other_than a) (first_seen rest)) in
    IsDistinct-cons same_id a _ (recursion_from_All (λ b. same_id a b ≡ false) (filter (other_than a) (first_seen rest)) apart) (distinct-filter (other_than a) (first_seen rest) (first_seen-distinct rest))

-- ---- the points of a series, or under a name
abbrev points_by : (SeriesId → Bool) → List StoredPoint → List Point
points_by test stored = map (λ s. s.point) (filter (λ s. test (id_of s)) stored)

module _ (test : SeriesId → Bool) where
  pub points-push_same : (stored : List StoredPoint) (s : StoredPoint) → test (id_of s) ≡ true → points_by test (stored ++ s ∷ []) ≡ points_by test stored ++ s.point ∷ []
  points-push_same stored s e = ap (map (λ s. s.point)) (filter_last_yes (λ s. test (id_of s)) stored s e) ∙ map-append (λ s. s.point) _ (s ∷ [])

  pub points-push_other : (stored : List StoredPoint) (s : StoredPoint) → test (id_of s) ≡ false → points_by test (stored ++ s ∷ []) ≡ points_by test stored
  points-push_other stored s e = ap (map (λ s. s.point)) (filter_last_no (λ s. test (id_of s)) stored s e)

  pub no_points : (stored : List StoredPoint) → list_any test (map id_of stored) ≡ false → points_by test stored ≡ []
  no_points [] h = refl
  no_points (s ∷ rest) h =
      let here = or_parts _ _ h in
      ap (map (λ s. s.point)) (cond-false (test (id_of s)) (s ∷ filter _ rest) _ here.0) ∙ no_points rest here.1

abbrev is_there : SeriesId → List StoredPoint → Bool
is_there id stored = list_any (same_id id) (map id_of stored)

-- ---- one more point
module _ (stored : List StoredPoint) (s : StoredPoint) where
  abbrev more : List StoredPoint
  more = stored ++ s ∷ []

  abbrev put_into : List Series → List Series
  put_into = after_put (id_of s) s.point.time s.point.value

  kept_series : (id : SeriesId) → same_id id (id_of s) ≡ false → series_of more id ≡ series_of stored id
  kept_series id e = λ i. record { id = id; values = by_time (points-push_other (same_id id) stored s e i) }

  own_points : points_of (id_of s) more ≡ points_of (id_of s) stored ++ s.point ∷ []
  own_points = points-push_same (same_id (id_of s)) stored s (same_itself (id_of s))

  first_point : is_there (id_of s) stored ≡ false → series_of more (id_of s) ≡ new_series (id_of s) s.point.time s.point.value
  first_point h =
      let points = own_points ∙ ap (λ ps. ps ++ s.point ∷ []) (no_points (same_id (id_of s)) stored h) in
      λ i. record { id = id_of s; values = by_time (points i) }

  further_point : series_of more (id_of s) ≡ with_value s.point.time s.point.value (series_of stored (id_of s))
  further_point =
      let values = ap by_time own_points ∙ fold-append _ [] (points_of (id_of s) stored) (s.point ∷ []) in
      λ i. record { id = id_of s; values = values i }

  others_kept : (ids : List SeriesId) → AllByRecursion (λ k. same_id (id_of s) k ≡ false) ids → map (series_of more) ids ≡ map (series_of stored) ids
  others_kept [] h = refl
  others_kept (k ∷ rest) h = λ i. kept_series k (other_way (id_of s) k h.0) i ∷ others_kept rest h.1 i

  put_new : (ids : List SeriesId) → is_there (id_of s) stored ≡ false → list_any (same_id (id_of s)) ids ≡ false → map (series_of more) (ids ++ id_of s ∷ []) ≡ put_into (map (series_of stored) ids)
  put_new [] n h = λ i. first_point n i ∷ []
  put_new (k ∷ rest) n h =
      let apart = or_parts _ _ h in
      (λ i. kept_series k (other_way (id_of s) k apart.0) i ∷ put_new rest n apart.1 i) ∙ sym (cond-false (same_id (id_of s) k) _ _ apart.0)

  put_there : (k : SeriesId) (rest : List SeriesId) (t : Bool) → same_id (id_of s) k ≡ t → IsDistinct same_id (k ∷ rest)
      → (t ≡ false → map (series_of more) rest ≡ put_into (map (series_of stored) rest)) → map (series_of more) (k ∷ rest) ≡ put_into (map (series_of stored) (k ∷ rest))
  put_there k rest true e h later =
      let same : id_of s ≡ k = same_from (id_of s) k e in
      let apart = subst (λ j. AllByRecursion (λ b. same_id j b ≡ false) rest) (sym same) (IsDistinct-head same_id k rest h) in
      let here : series_of more k ≡ with_value s.point.time s.point.value (series_of stored k) =
      subst (λ j. series_of more j ≡ with_value s.point.time s.point.value (series_of stored j)) same further_point in
      (λ i. here i ∷ others_kept rest apart i) ∙ sym (cond-true (same_id (id_of s) k) _ _ e)
  put_there k rest false e h later =
      (λ i. kept_series k (other_way (id_of s) k e) i ∷ later refl i) ∙ sym (cond-false (same_id (id_of s) k) _ _ e)

  put_further : (ids : List SeriesId) → IsDistinct same_id ids → list_any (same_id (id_of s)) ids ≡ true → map (series_of more) ids ≡ put_into (map (series_of stored) ids)
  put_further [] h a = absurd (false≢true a)
  put_further (k ∷ rest) h a =
      put_there k rest (same_id (id_of s) k) refl h (λ e. put_further rest (IsDistinct-tail same_id k rest h) (sym (ap (λ t. t || list_any (same_id (id_of s)) rest) e) ∙ a))

  ids_more : first_seen (map id_of more) ≡ insert_id (first_seen (map id_of stored)) (id_of s)
  ids_more = ap first_seen (map-append id_of stored (s ∷ [])) ∙ first_seen-push (map id_of stored) (id_of s)

  put_either : (t : Bool) → is_there (id_of s) stored ≡ t → grouped more ≡ put_into (grouped stored)
  put_either true n =
      let there : list_any (same_id (id_of s)) (first_seen (map id_of stored)) ≡ true = any-first_seen (same_id (id_of s)) (map id_of stored) ∙ n in
      ap (map (series_of more)) (ids_more ∙ insert_there _ _ there) ∙ put_further (first_seen (map id_of stored)) (first_seen-distinct (map id_of stored)) there
  put_either false n =
      let absent : list_any (same_id (id_of s)) (first_seen (map id_of stored)) ≡ false = any-first_seen (same_id (id_of s)) (map id_of stored) ∙ n in
      ap (map (series_of more)) (ids_more ∙ insert_new (first_seen (map id_of stored)) (id_of s) absent) ∙ put_new (first_seen (map id_of stored)) n absent

  -- the series of one more stored point are those before, with the point put
  pub grouped-push : grouped more ≡ put_into (grouped stored)
  grouped-push = put_either (is_there (id_of s) stored) refl

-- the series are those of the points, each once
pub ids-grouped : (stored : List StoredPoint) → map (λ t. t.id) (grouped stored) ≡ first_seen (map id_of stored)
ids-grouped stored = ids-map stored (first_seen (map id_of stored))
  where
    ids-map : (stored : List StoredPoint) (ids : List SeriesId) → map (λ t. t.id) (map (series_of stored) ids) ≡ ids
    ids-map stored [] = refl
    ids-map stored (k ∷ rest) = ap (λ l. k ∷ l) (ids-map stored rest)
