-- Lists of entries in the order of their keys, and what stands at the place of a key. The entries are read from
-- items by a function.
use Rattle.std.proofs.Common.{◌≡◌, ℕ, suc, true, false, List, [], ◌∷◌, map, get_or, sym, ap, subst}
use Rattle.std.specs.declared.cmp.Ordering.{Ordering}
use Rattle.std.specs.declared.cmp.Ordering.TheVariants.{Less, Equal, Greater}
use Rattle.std.specs.List.{insert}
use Rattle.std.specs.FinMap.Entries.{by_order, put}
use Rattle.std.proofs.Math.ListN.{set}
use Rattle.fx_value.specs.Place.{before, hits, StandsAt, BelongsAt}

module _ {K X C : Type 0} (R : K → K → Ordering) (f : C → K × X) where
  -- an item put over the one at the place of its key
  over : (k : K) (v : X) (cs : List C) (c d : C) → hits R k (map f cs) ≡ true
      → f c ≡ ((f (get_or cs (before R k (map f cs)) d)).0, v) → map f (set cs (before R k (map f cs)) c) ≡ put R k v (map f cs)
  over k v [] c d h is = cc
  over k v (a ∷ cs) c d h is =
      elim (R k (f a).0) as (λ o. by_order o false true (hits R k (map f cs)) ≡ true
      → f c ≡ ((f (get_or (a ∷ cs) (by_order o 0 0 (suc (before R k (map f cs)))) d)).0, v)
      → map f (set (a ∷ cs) (by_order o 0 0 (suc (before R k (map f cs)))) c) ≡ by_order o ((k, v) ∷ f a ∷ map f cs) (((f a).0, v) ∷ map f cs) (f a ∷ put R k v (map f cs))) [
        | Less ↦ λ h is. cc
        | Equal ↦ λ h is. ap (λ e. e ∷ map f cs) is
        | Greater ↦ λ h is. ap (λ es. f a ∷ es) (over k v cs c d h is)
      ] h is

  between : (k : K) (v : X) (cs : List C) (c : C) → hits R k (map f cs) ≡ false → f c ≡ (k, v)
      → map f (insert cs (before R k (map f cs)) c) ≡ put R k v (map f cs)
  between k v [] c h is = ap (λ e. e ∷ []) is
  between k v (a ∷ cs) c h is =
      elim (R k (f a).0) as (λ o. by_order o false true (hits R k (map f cs)) ≡ false
      → map f (insert (a ∷ cs) (by_order o 0 0 (suc (before R k (map f cs)))) c) ≡ by_order o ((k, v) ∷ f a ∷ map f cs) (((f a).0, v) ∷ map f cs) (f a ∷ put R k v (map f cs))) [
        | Less ↦ λ h. ap (λ e. e ∷ f a ∷ map f cs) is
        | Equal ↦ λ h. cc
        | Greater ↦ λ h. ap (λ es. f a ∷ es) (between k v cs c h is)
      ] h

  -- to write over the item at the place of a key is to put its entry
  pub put-at : (k : K) (v : X) (cs : List C) (i : ℕ) (c d : C) → StandsAt R k (map f cs) i
      → f c ≡ ((f (get_or cs i d)).0, v) → map f (set cs i c) ≡ put R k v (map f cs)
  put-at k v cs i c d at is =
      subst (λ (n : ℕ). f c ≡ ((f (get_or cs n d)).0, v) → map f (set cs n c) ≡ put R k v (map f cs)) (sym at.place)
      (over k v cs c d at.hit) is

  -- to insert an item at the place where its key belongs is to put its entry
  pub put-in : (k : K) (v : X) (cs : List C) (i : ℕ) (c : C) → BelongsAt R k (map f cs) i
      → f c ≡ (k, v) → map f (insert cs i c) ≡ put R k v (map f cs)
  put-in k v cs i c at is =
      subst (λ (n : ℕ). map f (insert cs n c) ≡ put R k v (map f cs)) (sym at.place) (between k v cs c at.hit is)
