-- What a stable sort by key leaves is the list that the definition makes, where all keys differ.
use Rattle.std.proofs.Common.{◌≡◌, ℕ, true, false, cond, List, [], ◌∷◌, map, refl, sym, ap, ◌∙◌, Option, Some, None, is_lt, T}
use Rattle.std.specs.declared.cmp.Ordering.TheVariants.{Less, Equal, Greater}
use Rattle.std.specs.Ordering.{is_eq, eq_by_cmp}
use Rattle.std.specs.List.{AllByRecursion, IsDistinct}
use Rattle.std.specs.List.Sorted.{IsSortedByKey, IsStableByKey, IsStrictlySortedBy}
use Rattle.std.specs.Cmp.Lexicographic.{nat_list_cmp_total, texts_ties}
use Rattle.std.specs.FinMap.{slice_cmp-IsAntisymmetric, nat_cmp-IsAntisymmetric}
use Rattle.std.specs.FinMap.Entries.{by_order, put, find, below_all, is_sorted, find-put, is_sorted-put, same_entries}
use Rattle.std.proofs.lemmas.Bool.{and_parts}
use Rattle.fx_base.specs.Text.{text_cmp, same_text}
use Rattle.fx_line.specs.declared.point.Tag.{Tag}
use Rattle.fx_line.specs.Line.{place_tag, sort_tags}
use Rattle.fx_line.specs.Order.{key_of, rises}
use Rattle.fx_line.proofs.Keys.{keyed, under, pair_of, pairs_of, to_T, from_T, less_is, same_under, sorted_from_rises, once_from_rises, once_along, distinct_from_once, once_from_distinct, in_order_from_sorted, not_once}

-- the first value under a key
first_value : List Tag → Option (List ℕ)
first_value [] = None
first_value (t ∷ ts) = Some t.value

find-under : (q : List ℕ) (ts : List Tag) → find text_cmp q (pairs_of ts) ≡ first_value (under q ts)
unfolding first_value
find-under q [] = refl
find-under q (t ∷ ts) =
    elim (keyed q t) as (λ b. cond b (Some t.value) (find text_cmp q (pairs_of ts)) ≡ first_value (cond b (t ∷ under q ts) (under q ts))) [
      | true ↦ refl
      | false ↦ find-under q ts
    ]

-- the entries put one after another, the last first
puts : List Tag → List (List ℕ × List ℕ)
puts [] = []
puts (t ∷ ts) = put text_cmp t.key t.value (puts ts)

find-puts : (q : List ℕ) (ts : List Tag) → find text_cmp q (puts ts) ≡ find text_cmp q (pairs_of ts)
unfolding puts
find-puts q [] = refl
find-puts q (t ∷ ts) = find-put text_cmp nat_list_cmp_total q t.key t.value (puts ts) ∙ ap (cond (eq_by_cmp text_cmp q t.key) (Some t.value)) (find-puts q ts)

sorted_puts : (ts : List Tag) → T (is_sorted text_cmp (puts ts))
unfolding puts
sorted_puts [] = tt
sorted_puts (t ∷ ts) = is_sorted-put text_cmp nat_list_cmp_total t.key t.value (puts ts) (sorted_puts ts)

-- a tag whose key is new is placed as an entry is put
not_some : {A : Type 0} (x : A) → Some x ≡ None → ⊥
not_some x e = cc e

place-put : (t : Tag) (us : List Tag) → find text_cmp t.key (pairs_of us) ≡ None → pairs_of (place_tag t us) ≡ put text_cmp t.key t.value (pairs_of us)
place-put t [] none = refl
place-put t (u ∷ us) none =
    elim (text_cmp t.key u.key) as (λ r. cond (is_eq r) (Some u.value) (find text_cmp t.key (pairs_of us)) ≡ None
    → pairs_of (cond (is_lt r) (t ∷ u ∷ us) (u ∷ place_tag t us)) ≡ by_order r (pair_of t ∷ pair_of u ∷ pairs_of us) ((u.key, t.value) ∷ pairs_of us) (pair_of u ∷ put text_cmp t.key t.value (pairs_of us))) [
      | Less ↦ λ _. refl
      | Equal ↦ λ e. absurd (not_some u.value e)
      | Greater ↦ λ e. ap (λ es. pair_of u ∷ es) (place-put t us e)
    ] none

-- the key of the first stands under no other
new_key : (t : Tag) (ts : List Tag) → AllByRecursion (λ y. same_text t.key y ≡ false) (map key_of ts) → find text_cmp t.key (pairs_of ts) ≡ None
new_key t [] h = refl
new_key t (u ∷ ts) h =
    ap (λ b. cond b (Some u.value) (find text_cmp t.key (pairs_of ts))) (sym (texts_ties t.key u.key) ∙ h.0) ∙ new_key t ts h.1

sort-puts : (ts : List Tag) → IsDistinct same_text (map key_of ts) → pairs_of (sort_tags ts) ≡ puts ts
unfolding IsDistinct puts
sort-puts [] h = refl
sort-puts (t ∷ ts) h =
    let rest = sort-puts ts h.1 in
    let none : find text_cmp t.key (pairs_of (sort_tags ts)) ≡ None = ap (find text_cmp t.key) rest ∙ find-puts t.key ts ∙ new_key t ts h.0 in
    place-put t (sort_tags ts) none ∙ ap (put text_cmp t.key t.value) rest

tag_of : List ℕ × List ℕ → Tag
tag_of e = record { key = e.0; value = e.1 }

tags_back : (ts : List Tag) → map tag_of (pairs_of ts) ≡ ts
unfolding tag_of
tags_back [] = refl
tags_back (t ∷ ts) = ap (λ us. t ∷ us) (tags_back ts)

same_pairs : (ts us : List Tag) → pairs_of ts ≡ pairs_of us → ts ≡ us
same_pairs ts us e = sym (tags_back ts) ∙ ap (map tag_of) e ∙ tags_back us

same_find : (xs ys : List Tag) → ((q : List ℕ) → under q ys ≡ under q xs) → (q : List ℕ) → find text_cmp q (pairs_of ys) ≡ find text_cmp q (puts xs)
same_find xs ys same q = find-under q ys ∙ ap first_value (same q) ∙ sym (find-under q xs) ∙ sym (find-puts q xs)

-- the two answers of the sort
pub distinct_if_rises : (xs ys : List Tag) → IsStableByKey key_of text_cmp xs ys → rises ys ≡ true → IsDistinct same_text (map key_of xs)
distinct_if_rises xs ys stable up = distinct_from_once xs (once_along xs ys (same_under xs ys stable) (once_from_rises ys up))

pub sorted_if_rises : (xs ys : List Tag) → IsStableByKey key_of text_cmp xs ys → rises ys ≡ true → ys ≡ sort_tags xs
sorted_if_rises xs ys stable up =
    let differ = distinct_if_rises xs ys stable up in
    let same : pairs_of ys ≡ puts xs = same_entries text_cmp nat_list_cmp_total (slice_cmp-IsAntisymmetric nat_cmp-IsAntisymmetric) (pairs_of ys) (puts xs)
    (to_T _ (sorted_from_rises ys up)) (sorted_puts xs) (same_find xs ys (same_under xs ys stable)) in
    same_pairs ys (sort_tags xs) (same ∙ sym (sort-puts xs differ))

pub repeated_if_not : (xs ys : List Tag) → IsSortedByKey key_of text_cmp ys → IsStableByKey key_of text_cmp xs ys → rises ys ≡ false → IsDistinct same_text (map key_of xs) → ⊥
repeated_if_not xs ys sorted stable flat differ =
    let back : (q : List ℕ) → under q xs ≡ under q ys = λ q. sym (same_under xs ys stable q) in
    not_once ys (in_order_from_sorted ys sorted) flat (once_along ys xs back (once_from_distinct xs differ))

-- the sorted tags rise strictly
above_all : (x : List ℕ) (ts : List Tag) → below_all text_cmp x (pairs_of ts) ≡ true → AllByRecursion (λ y. text_cmp x y ≡ Less) (map key_of ts)
above_all x [] h = tt
above_all x (t ∷ ts) h =
    let parts = and_parts _ _ h in
    (less_is _ parts.0, above_all x ts parts.1)

strictly_sorted : (ts : List Tag) → is_sorted text_cmp (pairs_of ts) ≡ true → IsStrictlySortedBy text_cmp (map key_of ts)
unfolding IsStrictlySortedBy
strictly_sorted [] h = tt
strictly_sorted (t ∷ ts) h =
    let parts = and_parts _ _ h in (above_all t.key ts parts.0, strictly_sorted ts parts.1)

pub sort_rises : (ts : List Tag) → IsDistinct same_text (map key_of ts) → IsStrictlySortedBy text_cmp (map key_of (sort_tags ts))
sort_rises ts h = strictly_sorted (sort_tags ts) (ap (is_sorted text_cmp) (sort-puts ts h) ∙ from_T _ (sorted_puts ts))
