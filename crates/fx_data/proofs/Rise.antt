-- Tables whose keys rise one after another.
use Rattle.std.proofs.Common.{◌≡◌, ℕ, suc, zero, ◌+◌, ◌≤◌, ◌<◌, List, [], ◌∷◌, map, length, get_or, drop, sym, ap, subst, ◌∙◌, arith, drop-cons}
use Rattle.std.specs.declared.cmp.Ordering.TheVariants.{Less}
use Rattle.std.specs.List.{AllByRecursion}
use Rattle.std.specs.List.Sorted.{IsStrictlySortedBy}
use Rattle.fx_data.specs.Ascending.{Rise}
use Rattle.fx_data.specs.declared.key.Key.{Key}
use Rattle.fx_data.specs.declared.table.Table.{Table}
use Rattle.fx_data.specs.Key.{key_cmp}
use Rattle.fx_data.proofs.Keys.{key_cmp_total}

above_more : (k l : Key) (ks : List Key) → key_cmp k l ≡ Less → AllByRecursion (λ q. key_cmp l q ≡ Less) ks → AllByRecursion (λ q. key_cmp k q ≡ Less) ks
above_more k l [] below h = tt
above_more k l (q ∷ ks) below h = (key_cmp_total.trans k l q below h.0, above_more k l ks below h.1)

-- a table before tables that rise, where its key is below the first of theirs
rise_more : (t u : Table) (us : List Table) → key_cmp t.key u.key ≡ Less → Rise (u ∷ us) → Rise (t ∷ u ∷ us)
unfolding IsStrictlySortedBy
rise_more t u us below h = ((below, above_more t.key u.key (map (λ v. v.key) us) below h.0), h)

-- at most one table rises
pub rise_short : (ts : List Table) (j : ℕ) → length ts ≤ j + 1 → Rise (drop j ts)
unfolding IsStrictlySortedBy
rise_short [] zero short = tt
rise_short [] (suc j) short = tt
rise_short (t ∷ []) zero short = (tt, tt)
rise_short (t ∷ u ∷ ts) zero short = absurd (omega arith)
rise_short (t ∷ ts) (suc j) short = rise_short ts j (omega arith)

-- one table more at the front of those that rise
pub rise_back : (ts : List Table) (i k : ℕ) (t u : Table) → k + 1 ≡ i → i < length ts → t ≡ get_or ts k t → u ≡ get_or ts i u → key_cmp t.key u.key ≡ Less
    → Rise (drop i ts) → Rise (drop k ts)
rise_back ts i k t u next within first second below h =
    let tail : drop i ts ≡ u ∷ drop (suc i) ts = drop-cons ts i u within ∙ ap (λ x. x ∷ drop (suc i) ts) (sym second) in
    let here : k < length ts = omega arith in
    let same : suc k ≡ i = omega arith in
    let whole : drop k ts ≡ t ∷ u ∷ drop (suc i) ts
    = drop-cons ts k t here ∙ ap (λ x. x ∷ drop (suc k) ts) (sym first) ∙ ap (λ n. t ∷ drop n ts) same ∙ ap (λ us. t ∷ us) tail in
    subst Rise (sym whole) (rise_more t u (drop (suc i) ts) below (subst Rise tail h))
