-- Tags by their keys: which stand under a key, how often, and where all keys differ.
use Rattle.std.proofs.Common.{◌≡◌, ℕ, suc, ◌+◌, ◌<◌, ◌≤◌, Bool, true, false, not, ◌&&◌, cond, List, [], ◌∷◌, map, length, get_or, refl, sym, ap, ◌∙◌, subst, arith, Ordering, is_lt, T}
use Rattle.std.specs.declared.cmp.Ordering.TheVariants.{Less, Equal, Greater}
use Rattle.std.specs.Ordering.{is_eq, eq_by_cmp, ordering_reverse}
use Rattle.std.specs.List.{filter, AllByRecursion, IsDistinct}
use Rattle.std.specs.List.Sorted.{ties, IsSortedByKey, IsStableByKey}
use Rattle.std.specs.Cmp.{tied_itself}
use Rattle.std.specs.Cmp.Lexicographic.{nat_list_cmp_total, texts_ties}
use Rattle.std.specs.FinMap.Entries.{below_all, is_sorted}
use Rattle.std.proofs.lemmas.Bool.{and_parts, false≢true}
use Rattle.std.proofs.lemmas.List.{nil_from_length}
use Rattle.fx_base.specs.Text.{text_cmp, same_text}
use Rattle.fx_line.specs.declared.point.Tag.{Tag}
use Rattle.fx_line.specs.Order.{key_of, comes_before, rises}

-- the tag stands under the key
abbrev pub keyed : List ℕ → Tag → Bool
keyed q t = eq_by_cmp text_cmp q t.key

abbrev pub under : List ℕ → List Tag → List Tag
under q = filter (keyed q)

abbrev pub pair_of : Tag → List ℕ × List ℕ
pair_of t = (t.key, t.value)

abbrev pub pairs_of : List Tag → List (List ℕ × List ℕ)
pairs_of = map pair_of

-- no key stands twice
pub record IsOnce (ts : List Tag) : Type 0 where
  pub once : (q : List ℕ) → length (under q ts) ≤ 1

equal_is : (r : Ordering) → is_eq r ≡ true → r ≡ Equal
equal_is Less h = absurd (false≢true h)
equal_is Equal h = refl
equal_is Greater h = absurd (false≢true h)

pub less_is : (r : Ordering) → is_lt r ≡ true → r ≡ Less
less_is Less h = refl
less_is Equal h = absurd (false≢true h)
less_is Greater h = absurd (false≢true h)

pub to_T : (b : Bool) → b ≡ true → T b
to_T b e = subst T (sym e) tt

pub from_T : (b : Bool) → T b → b ≡ true
from_T true h = refl
from_T false h = absurd h

-- what stays under a key, one tag on
under_yes : (q : List ℕ) (t : Tag) (ts : List Tag) → keyed q t ≡ true → under q (t ∷ ts) ≡ t ∷ under q ts
under_yes q t ts h = ap (λ b. cond b (t ∷ under q ts) (under q ts)) h

under_no : (q : List ℕ) (t : Tag) (ts : List Tag) → keyed q t ≡ false → under q (t ∷ ts) ≡ under q ts
under_no q t ts h = ap (λ b. cond b (t ∷ under q ts) (under q ts)) h

own_key : (t : Tag) → keyed t.key t ≡ true
own_key t = ap is_eq (tied_itself nat_list_cmp_total t.key)

-- two lists that a stable sort leaves one of the other have the same under each key
ties_by : (r s : Ordering) → s ≡ ordering_reverse r → (not (is_lt r) && not (is_lt s)) ≡ is_eq r
ties_by Less s e = refl
ties_by Equal s e = ap (λ o. not (is_lt o)) e
ties_by Greater s e = ap (λ o. not (is_lt o)) e

pub same_under : (xs ys : List Tag) → IsStableByKey key_of text_cmp xs ys → (q : List ℕ) → under q ys ≡ under q xs
same_under xs ys stable q =
    let x : Tag = record { key = q; value = [] } in
    let lower : Tag → Tag → Bool = λ a b. is_lt (text_cmp a.key b.key) in
    let test : ◌≡◌ {A = Tag → Bool} (ties lower x) (keyed q) = λ i y. ties_by (text_cmp q y.key) (text_cmp y.key q) (nat_list_cmp_total.antisymm y.key q) i in
    ap (λ p. filter p ys) (sym test) ∙ stable x ∙ ap (λ p. filter p xs) test

-- the strict order of neighbours is that of all
below_less : (x y : List ℕ) (es : List (List ℕ × List ℕ)) → text_cmp x y ≡ Less → below_all text_cmp y es ≡ true → below_all text_cmp x es ≡ true
below_less x y [] p h = refl
below_less x y (e ∷ es) p h =
    let parts = and_parts _ _ h in
    ap (λ r. is_lt r && below_all text_cmp x es) (nat_list_cmp_total.trans x y e.0 p (less_is _ parts.0)) ∙ below_less x y es p parts.1

below_first : (t : Tag) (ts : List Tag) → comes_before t ts ≡ true → is_sorted text_cmp (pairs_of ts) ≡ true → below_all text_cmp t.key (pairs_of ts) ≡ true
below_first t [] h sorted = refl
below_first t (u ∷ ts) h sorted =
    let less : text_cmp t.key u.key ≡ Less = less_is _ h in
    ap (λ r. is_lt r && below_all text_cmp t.key (pairs_of ts)) less ∙ below_less t.key u.key (pairs_of ts) less (and_parts _ _ sorted).0

and_both : (a b : Bool) → a ≡ true → b ≡ true → (a && b) ≡ true
and_both a b p q = ap (λ x. x && b) p ∙ q

pub sorted_from_rises : (ts : List Tag) → rises ts ≡ true → is_sorted text_cmp (pairs_of ts) ≡ true
sorted_from_rises [] h = refl
sorted_from_rises (t ∷ ts) h =
    let parts = and_parts _ _ h in
    let rest = sorted_from_rises ts parts.1 in and_both _ _ (below_first t ts parts.0 rest) rest

-- no key stands twice where all rise
not_keyed : (q : List ℕ) (t u : Tag) → text_cmp q t.key ≡ Equal → text_cmp t.key u.key ≡ Less → keyed q u ≡ false
not_keyed q t u tied less = ap is_eq (nat_list_cmp_total.congr q t.key u.key tied ∙ less)

none_above : (q : List ℕ) (t : Tag) (ts : List Tag) → text_cmp q t.key ≡ Equal → below_all text_cmp t.key (pairs_of ts) ≡ true → under q ts ≡ []
none_above q t [] tied h = refl
none_above q t (u ∷ ts) tied h =
    let parts = and_parts _ _ h in
    under_no q u ts (not_keyed q t u tied (less_is _ parts.0)) ∙ none_above q t ts tied parts.1

at_most_one : (q : List ℕ) (t : Tag) (ts : List Tag) → (keyed q t ≡ true → under q ts ≡ []) → length (under q ts) ≤ 1 → length (under q (t ∷ ts)) ≤ 1
at_most_one q t ts alone rest =
    elim (keyed q t) as (λ b. keyed q t ≡ b → length (cond b (t ∷ under q ts) (under q ts)) ≤ 1) [
      | true ↦ λ e. omega (arith, ap length (alone e))
      | false ↦ λ e. rest
    ] refl

once_sorted : (q : List ℕ) (ts : List Tag) → is_sorted text_cmp (pairs_of ts) ≡ true → length (under q ts) ≤ 1
once_sorted q [] h = omega arith
once_sorted q (t ∷ ts) h =
    let parts = and_parts _ _ h in
    at_most_one q t ts (λ e. none_above q t ts (equal_is _ e) parts.0) (once_sorted q ts parts.1)

pub once_from_rises : (ts : List Tag) → rises ts ≡ true → IsOnce ts
once_from_rises ts h = record { once = λ q. once_sorted q ts (sorted_from_rises ts h) }

pub once_along : (xs ys : List Tag) → ((q : List ℕ) → under q ys ≡ under q xs) → IsOnce ys → IsOnce xs
once_along xs ys same h = record { once = λ q. subst (λ (l : List Tag). length l ≤ 1) (same q) (h.once q) }

-- where no key stands twice, all differ
once_rest : (t : Tag) (ts : List Tag) → IsOnce (t ∷ ts) → IsOnce ts
once_rest t ts h = record {
  once = λ q.
      elim (keyed q t) as (λ b. length (cond b (t ∷ under q ts) (under q ts)) ≤ 1 → length (under q ts) ≤ 1) [
        | true ↦ λ most. omega arith
        | false ↦ λ most. most
      ] (h.once q);
}

alone : (t : Tag) (ts : List Tag) → IsOnce (t ∷ ts) → under t.key ts ≡ []
alone t ts h =
    let most : length (t ∷ under t.key ts) ≤ 1 = subst (λ (l : List Tag). length l ≤ 1) (under_yes t.key t ts (own_key t)) (h.once t.key) in
    nil_from_length (under t.key ts) (omega arith)

not_under : (q : List ℕ) (t : Tag) (ts : List Tag) → under q (t ∷ ts) ≡ [] → (keyed q t ≡ false) × (under q ts ≡ [])
not_under q t ts none =
    elim (keyed q t) as (λ b. cond b (t ∷ under q ts) (under q ts) ≡ [] → (b ≡ false) × (under q ts ≡ [])) [
      | true ↦ λ e. absurd (cc e)
      | false ↦ λ e. (refl, e)
    ] none

all_differ : (q : List ℕ) (ts : List Tag) → under q ts ≡ [] → AllByRecursion (λ y. same_text q y ≡ false) (map key_of ts)
all_differ q [] none = tt
all_differ q (t ∷ ts) none =
    let parts = not_under q t ts none in (texts_ties q t.key ∙ parts.0, all_differ q ts parts.1)

pub distinct_from_once : (ts : List Tag) → IsOnce ts → IsDistinct same_text (map key_of ts)
unfolding IsDistinct
distinct_from_once [] h = tt
distinct_from_once (t ∷ ts) h = (all_differ t.key ts (alone t ts h), distinct_from_once ts (once_rest t ts h))

-- where all keys differ, none stands twice
none_tied : (q : List ℕ) (t : Tag) (ts : List Tag) → text_cmp q t.key ≡ Equal → AllByRecursion (λ y. same_text t.key y ≡ false) (map key_of ts) → under q ts ≡ []
none_tied q t [] tied h = refl
none_tied q t (u ∷ ts) tied h =
    let other : keyed q u ≡ false = ap is_eq (nat_list_cmp_total.congr q t.key u.key tied) ∙ sym (texts_ties t.key u.key) ∙ h.0 in
    under_no q u ts other ∙ none_tied q t ts tied h.1

once_distinct : (q : List ℕ) (ts : List Tag) → IsDistinct same_text (map key_of ts) → length (under q ts) ≤ 1
unfolding IsDistinct
once_distinct q [] h = omega arith
once_distinct q (t ∷ ts) h = at_most_one q t ts (λ e. none_tied q t ts (equal_is _ e) h.0) (once_distinct q ts h.1)

pub once_from_distinct : (ts : List Tag) → IsDistinct same_text (map key_of ts) → IsOnce ts
once_from_distinct ts h = record { once = λ q. once_distinct q ts h }

-- sorted tags that do not rise strictly have a key twice
pub record IsInOrder (ts : List Tag) : Type 0 where
  pub in_order : (k : ℕ) (d : Tag) → k + 1 < length ts → is_lt (text_cmp (get_or ts (k + 1) d).key (get_or ts k d).key) ≡ false

in_order_rest : (t : Tag) (ts : List Tag) → IsInOrder (t ∷ ts) → IsInOrder ts
in_order_rest t ts h = record {
  in_order = λ k d within.
      let step : suc k + 1 ≡ suc (k + 1) = omega arith in
      let at = h.in_order (suc k) d (omega arith) in
      subst (λ n. is_lt (text_cmp (get_or (t ∷ ts) n d).key (get_or ts k d).key) ≡ false) step at;
}

tied_neighbours : (r s : Ordering) → s ≡ ordering_reverse r → is_lt r ≡ false → is_lt s ≡ false → is_eq r ≡ true
tied_neighbours Less s e p q = absurd (false≢true (sym p))
tied_neighbours Equal s e p q = refl
tied_neighbours Greater s e p q = absurd (false≢true (sym (ap is_lt (sym e) ∙ q)))

twice : (t u : Tag) (ts : List Tag) → keyed t.key u ≡ true → IsOnce (t ∷ u ∷ ts) → ⊥
twice t u ts tied h = cc (sym (under_yes t.key u ts tied) ∙ alone t (u ∷ ts) h)

pub not_once : (ts : List Tag) → IsInOrder ts → rises ts ≡ false → IsOnce ts → ⊥
not_once [] order h once = false≢true (sym h)
not_once (t ∷ []) order h once = false≢true (sym h)
not_once (t ∷ u ∷ ts) order h once =
    elim (is_lt (text_cmp t.key u.key)) as (λ b. is_lt (text_cmp t.key u.key) ≡ b → (b && rises (u ∷ ts)) ≡ false → ⊥) [
      | true ↦ λ e rest. not_once (u ∷ ts) (in_order_rest t (u ∷ ts) order) rest (once_rest t (u ∷ ts) once)
      | false ↦ λ e _. twice t u ts (tied_neighbours (text_cmp t.key u.key) (text_cmp u.key t.key) (nat_list_cmp_total.antisymm u.key t.key) e (order.in_order 0 t (omega arith))) once
    ] refl h

pub in_order_from_sorted : (ts : List Tag) → IsSortedByKey key_of text_cmp ts → IsInOrder ts
in_order_from_sorted ts h = record { in_order = λ k d within. h k d (omega arith) within }
