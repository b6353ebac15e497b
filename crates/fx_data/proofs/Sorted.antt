-- Entries in the order of their keys, and lists of keys that rise.
use Rattle.std.proofs.Common.{◌≡◌, Bool, true, false, T, List, [], ◌∷◌, map, refl, sym, subst}
use Rattle.std.specs.Prelude.{◌&&◌}
use Rattle.std.specs.declared.cmp.Ordering.{Ordering}
use Rattle.std.specs.declared.cmp.Ordering.TheVariants.{Less, Equal, Greater}
use Rattle.std.specs.Ordering.{is_lt}
use Rattle.std.specs.List.{AllByRecursion}
use Rattle.std.specs.List.Sorted.{IsStrictlySortedBy}
use Rattle.std.specs.FinMap.Entries.{is_sorted, below_all}

both : (a b : Bool) → T a → T b → T (a && b)
both true b p q = q
both false b p q = p

first : (a b : Bool) → T (a && b) → T a
first true b p = tt
first false b p = p

second : (a b : Bool) → T (a && b) → T b
second true b p = p
second false b p = absurd p

less : (o : Ordering) → T (is_lt o) → o ≡ Less
less Less p = refl
less Equal p = absurd p
less Greater p = absurd p

module _ {K X : Type 0} (R : K → K → Ordering) where
  below_keys : (k : K) (es : List (K × X)) → AllByRecursion (λ q. R k q ≡ Less) (map (λ e. e.0) es) → T (below_all R k es)
  below_keys k [] h = tt
  below_keys k (e ∷ es) h = both (is_lt (R k e.0)) (below_all R k es) (subst (λ o. T (is_lt o)) (sym h.0) tt) (below_keys k es h.1)

  pub sorted_keys : (es : List (K × X)) → IsStrictlySortedBy R (map (λ e. e.0) es) → T (is_sorted R es)
  unfolding IsStrictlySortedBy
  sorted_keys [] h = tt
  sorted_keys (e ∷ es) h = both (below_all R e.0 es) (is_sorted R es) (below_keys e.0 es h.0) (sorted_keys es h.1)

  above_keys : (k : K) (es : List (K × X)) → T (below_all R k es) → AllByRecursion (λ q. R k q ≡ Less) (map (λ e. e.0) es)
  above_keys k [] h = tt
  above_keys k (e ∷ es) h = (less (R k e.0) (first (is_lt (R k e.0)) (below_all R k es) h), above_keys k es (second (is_lt (R k e.0)) (below_all R k es) h))

  pub keys_rise : (es : List (K × X)) → T (is_sorted R es) → IsStrictlySortedBy R (map (λ e. e.0) es)
  unfolding IsStrictlySortedBy
  keys_rise [] h = tt
  keys_rise (e ∷ es) h = (above_keys e.0 es (first (below_all R e.0 es) (is_sorted R es) h), keys_rise es (second (below_all R e.0 es) (is_sorted R es) h))
