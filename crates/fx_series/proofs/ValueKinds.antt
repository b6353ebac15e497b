-- The values of a series are of its kind.
use Rattle.std.proofs.Common.{◌≡◌, ℤ, Bool, true, false, cond, refl, Option, List, [], ◌∷◌, map, filter, fold, All, sym, ap, subst}
use Rattle.std.specs.declared.cmp.Ordering.TheVariants.{Less, Equal, Greater}
use Rattle.std.specs.Ordering.{int_cmp, match_ordering}
use Rattle.std.specs.List.{AllByRecursion}
use Rattle.std.specs.BTreeMap.{insert_entry}
use Rattle.std.proofs.lemmas.Bool.{cond-true, cond-false}
use Rattle.std.proofs.lemmas.List.Elements.{All-nil, All-cons, All-from_recursion}
use Rattle.fx_value.specs.declared.scalar.Kind.{Kind}
use Rattle.fx_value.specs.declared.scalar.Scalar.{Scalar}
use Rattle.fx_value.specs.Scalar.{kind_of}
use Rattle.fx_line.specs.declared.point.Point.{Point}
use Rattle.fx_line.specs.Stored.{StoredPoint, SeriesId, same_id, id_of, points_of, by_time, Series, series_of}
use Rattle.fx_series.proofs.Same.{same_from}

abbrev pub AreOfKind : Option Kind → List (ℤ × Scalar) → Type 0
AreOfKind o = AllByRecursion (λ v. kind_of v.1 ≡ o)

abbrev pub IsOfItsKind : Series → Type 0
IsOfItsKind s = AreOfKind s.id.kind s.values

insert-of_kind : (o : Option Kind) (values : List (ℤ × Scalar)) (time : ℤ) (value : Scalar) → kind_of value ≡ o → AreOfKind o values → AreOfKind o (insert_entry int_cmp values time value)
insert-of_kind o [] time value g h = (g, tt)
insert-of_kind o (v ∷ values) time value g h =
    elim (int_cmp time v.0) as (λ c. AreOfKind o (match_ordering c ((time, value) ∷ v ∷ values) ((v.0, value) ∷ values) (v ∷ insert_entry int_cmp values time value))) [
      | Less ↦ (g, h)
      | Equal ↦ (g, h.1)
      | Greater ↦ (h.0, insert-of_kind o values time value g h.1)
    ]

fold-of_kind : (o : Option Kind) (values : List (ℤ × Scalar)) (points : List Point) → AllByRecursion (λ p. kind_of p.value ≡ o) points → AreOfKind o values
    → AreOfKind o (fold (λ entries p. insert_entry int_cmp entries p.time p.value) values points)
fold-of_kind o values [] g h = h
fold-of_kind o values (p ∷ points) g h =
    fold-of_kind o (insert_entry int_cmp values p.time p.value) points g.1 (insert-of_kind o values p.time p.value g.0 h)

abbrev is_one_of : SeriesId → StoredPoint → Bool
is_one_of id s = same_id id (id_of s)

abbrev ArePointsOfKind : Option Kind → List StoredPoint → Type 0
ArePointsOfKind o stored = AllByRecursion (λ p. kind_of p.value ≡ o) (map (λ s. s.point) stored)

points-of_kind : (id : SeriesId) (stored : List StoredPoint) → AllByRecursion (λ p. kind_of p.value ≡ id.kind) (points_of id stored)
points-of_kind id [] = tt
points-of_kind id (s ∷ rest) = by (same_id id (id_of s)) refl (points-of_kind id rest)
  where
    by : (t : Bool) → same_id id (id_of s) ≡ t → ArePointsOfKind id.kind (filter (is_one_of id) rest) → ArePointsOfKind id.kind (filter (is_one_of id) (s ∷ rest))
    by true e later =
        subst (ArePointsOfKind id.kind) (sym (cond-true (is_one_of id s) (s ∷ filter (is_one_of id) rest) (filter (is_one_of id) rest) e)) (sym (ap (λ k. k.kind) (same_from id (id_of s) e)), later)
    by false e later = subst (ArePointsOfKind id.kind) (sym (cond-false (is_one_of id s) (s ∷ filter (is_one_of id) rest) (filter (is_one_of id) rest) e)) later

of_its_kind : (stored : List StoredPoint) (id : SeriesId) → IsOfItsKind (series_of stored id)
of_its_kind stored id = fold-of_kind id.kind [] (points_of id stored) (points-of_kind id stored) tt

pub series-of_kind : (stored : List StoredPoint) (ids : List SeriesId) → AllByRecursion IsOfItsKind (map (series_of stored) ids)
series-of_kind stored [] = tt
series-of_kind stored (id ∷ ids) = (of_its_kind stored id, series-of_kind stored ids)

abbrev HasValuesOfKind : Series → Type 0
HasValuesOfKind s = All (λ v. kind_of v.1 ≡ s.id.kind) s.values

pub values-of_kind : (stored : List StoredPoint) (ids : List SeriesId) → All HasValuesOfKind (map (series_of stored) ids)
values-of_kind stored [] = All-nil HasValuesOfKind
values-of_kind stored (id ∷ ids) =
    All-cons HasValuesOfKind (series_of stored id) (map (series_of stored) ids) (All-from_recursion (λ v. kind_of v.1 ≡ id.kind) (by_time (points_of id stored)) (of_its_kind stored id)) (values-of_kind stored ids)
