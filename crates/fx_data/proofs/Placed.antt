-- Rows put behind those of a table among tables whose keys rise.
use Rattle.std.proofs.Common.{◌≡◌, ℕ, suc, zero, ◌+◌, ◌<◌, ◌≤◌, Bool, true, false, List, [], ◌∷◌, ◌++◌, map, length, get_or, refl, sym, ap, subst, ◌∙◌, arith}
use Rattle.std.proofs.lemmas.List.Sorted.{searchable_from_sorted}
use Rattle.std.proofs.Math.ListN.{set}
use Rattle.std.specs.Prelude.{cond, Option, Some, Result, Ok, Err, IfOk, IfErr}
use Rattle.std.specs.declared.cmp.Ordering.{Ordering}
use Rattle.std.specs.declared.cmp.Ordering.TheVariants.{Less, Equal, Greater}
use Rattle.std.specs.Ordering.{is_eq, is_lt, eq_by_cmp, ordering_reverse}
use Rattle.std.specs.Option.{unwrap_or}
use Rattle.std.specs.Cmp.{Equal-is}
use Rattle.std.specs.List.{AllByRecursion, AllWithin, HoldsAt, insert}
use Rattle.std.specs.List.Sorted.{IsStrictlySortedBy, IsBinarySearchResult, IsSearchInRange}
use Rattle.std.specs.FinMap as fin
use Rattle.fx_data.specs.Ascending.{Rise}
use Rattle.fx_data.specs.Gathered.{grouped}
use Rattle.fx_data.specs.Key.{key_cmp}
use Rattle.fx_data.specs.Placed.{KeyAt, with_rows_at, BelongsIn}
use Rattle.fx_data.specs.Regrouped.{joined, all_joined}
use Rattle.fx_data.specs.Table.{HasKey, IsLawfulTable}
use Rattle.fx_data.specs.declared.key.Key.{Key}
use Rattle.fx_data.specs.declared.table.Table.{Table}
use Rattle.fx_data.proofs.Gathered.{Rows}
use Rattle.fx_data.proofs.Keys.{key_cmp_total, key_same}
use Rattle.fx_data.proofs.Lawful.{all-append}
use Rattle.fx_data.proofs.Merged.{rise_sorted}
use Rattle.fx_data.proofs.Regrouped.{Groups, get-joined, joined_twice, joined_empty}

-- no table has this key
abbrev pub NoneHas : Key → List Table → Type 0
NoneHas key = AllByRecursion (λ t. eq_by_cmp key_cmp key t.key ≡ false)

-- ---- tables with different keys in the other order

swap_at : (o : Option Rows) (a b : Bool) (xs ys : Rows) → (a ≡ true → b ≡ false)
    → cond b (Some (unwrap_or (cond a (Some (unwrap_or o [] ++ xs)) o) [] ++ ys)) (cond a (Some (unwrap_or o [] ++ xs)) o)
    ≡ cond a (Some (unwrap_or (cond b (Some (unwrap_or o [] ++ ys)) o) [] ++ xs)) (cond b (Some (unwrap_or o [] ++ ys)) o)
swap_at o true true xs ys apart = let no : true ≡ false = apart refl in cc
swap_at o true false xs ys apart = refl
swap_at o false true xs ys apart = refl
swap_at o false false xs ys apart = refl

swap : (groups : Groups) (t u : Table) → eq_by_cmp key_cmp t.key u.key ≡ false → joined (joined groups t) u ≡ joined (joined groups u) t
swap groups t u apart =
    fin.same_map key_cmp_total key_same _ _ (λ k.
    get-joined (joined groups t) u k
    ∙ ap (λ (o : Option Rows). cond (eq_by_cmp key_cmp k u.key) (Some (unwrap_or o [] ++ u.rows)) o) (get-joined groups t k)
    ∙ swap_at (fin.get groups k) (eq_by_cmp key_cmp k t.key) (eq_by_cmp key_cmp k u.key) t.rows u.rows
    (λ here. ap (λ (q : Key). eq_by_cmp key_cmp q u.key) (key_same k t.key ((Equal-is _).0 here)) ∙ apart)
    ∙ ap (λ (o : Option Rows). cond (eq_by_cmp key_cmp k t.key) (Some (unwrap_or o [] ++ t.rows)) o) (sym (get-joined groups u k))
    ∙ sym (get-joined (joined groups u) t k))

-- a table past others with other keys
past : (groups : Groups) (t : Table) (ts : List Table) → NoneHas t.key ts → all_joined (joined groups t) ts ≡ joined (all_joined groups ts) t
past groups t [] apart = refl
past groups t (u ∷ ts) apart = ap (λ g. all_joined g ts) (swap groups t u apart.0) ∙ past (joined groups u) t ts apart.1

none_has : (k : Key) (ts : List Table) → AllByRecursion (λ q. key_cmp k q ≡ Less) (map (λ t. t.key) ts) → NoneHas k ts
none_has k [] h = tt
none_has k (t ∷ ts) h = (ap is_eq h.0, none_has k ts h.1)

-- ---- rows behind those of the table at a place

module _ (key : Key) (rows : Rows) where
  all_joined_at : (groups : Groups) (ts : List Table) (i : ℕ) → Rise ts → KeyAt key ts i → all_joined groups (with_rows_at i rows ts) ≡ joined (all_joined groups ts) (record { key = key; rows = rows })
  unfolding IsStrictlySortedBy
  all_joined_at groups [] i rise at = absurd at
  all_joined_at groups (t ∷ ts) zero rise at =
      ap (λ g. all_joined g ts) (joined_twice groups t.key t.rows rows)
      ∙ past (joined groups t) (record { key = t.key; rows = rows }) ts (none_has t.key ts rise.0)
      ∙ ap (λ (k : Key). joined (all_joined (joined groups t) ts) (record { key = k; rows = rows })) at
  all_joined_at groups (t ∷ ts) (suc i) rise at = all_joined_at (joined groups t) ts i rise.1 at

  pub joined_at : (ts : List Table) (i : ℕ) → Rise ts → KeyAt key ts i → grouped (with_rows_at i rows ts) ≡ joined (grouped ts) (record { key = key; rows = rows })
  joined_at ts i rise at =
      sym (joined_empty (with_rows_at i rows ts)) ∙ all_joined_at fin.empty ts i rise at ∙ ap (λ g. joined g (record { key = key; rows = rows })) (joined_empty ts)

  keys_at : (ts : List Table) (i : ℕ) → map (λ t. t.key) (with_rows_at i rows ts) ≡ map (λ t. t.key) ts
  keys_at [] i = refl
  keys_at (t ∷ ts) zero = refl
  keys_at (t ∷ ts) (suc i) = ap (λ ks. t.key ∷ ks) (keys_at ts i)

  pub rise_at : (ts : List Table) (i : ℕ) → Rise ts → Rise (with_rows_at i rows ts)
  rise_at ts i rise = subst (IsStrictlySortedBy key_cmp) (sym (keys_at ts i)) rise

  pub lawful_at : (ts : List Table) (i : ℕ) → KeyAt key ts i → AllByRecursion (HasKey key.entries) rows → AllByRecursion IsLawfulTable ts → AllByRecursion IsLawfulTable (with_rows_at i rows ts)
  lawful_at [] i at columns each = tt
  lawful_at (t ∷ ts) zero at columns each = (
    record {
      rising = each.0.rising;
      columns = all-append (HasKey t.key.entries) t.rows rows each.0.columns (subst (λ (k : Key). AllByRecursion (HasKey k.entries) rows) (sym at) columns);
    },
    each.1,
  )
  lawful_at (t ∷ ts) (suc i) at columns each = (each.0, lawful_at ts i at columns each.1)

-- ---- places

pub set_is : (ts : List Table) (i : ℕ) (t u : Table) (rows : Rows) → i < length ts → t ≡ get_or ts i t → u ≡ record t { rows = t.rows ++ rows } → set ts i u ≡ with_rows_at i rows ts
set_is [] i t u rows within is after = absurd (omega arith)
set_is (v ∷ ts) zero t u rows within is after = ap (λ (x : Table). x ∷ ts) (after ∙ ap (λ (x : Table). record { key = x.key; rows = x.rows ++ rows }) is)
set_is (v ∷ ts) (suc i) t u rows within is after = ap (λ us. v ∷ us) (set_is ts i t u rows (omega arith) is after)

pub key_at : (key : Key) (ts : List Table) (i : ℕ) (t : Table) → i < length ts → t ≡ get_or ts i t → t.key ≡ key → KeyAt key ts i
key_at key [] i t within is same = absurd (omega arith)
key_at key (v ∷ ts) zero t within is same = ap (λ (x : Table). x.key) (sym is) ∙ same
key_at key (v ∷ ts) (suc i) t within is same = key_at key ts i t (omega arith) is same

pub at_within : (key : Key) (ts : List Table) (i : ℕ) → KeyAt key ts i → i < length ts
at_within key [] i at = absurd at
at_within key (t ∷ ts) zero at = omega arith
at_within key (t ∷ ts) (suc i) at = let below = at_within key ts i at in omega arith

-- what a search among tables whose keys rise finds
pub found_at : (key : Key) (ts : List Table) (i : ℕ) → i < length ts → HoldsAt (λ t. key_cmp t.key key ≡ Equal) ts i → KeyAt key ts i
found_at key [] i within h = absurd (omega arith)
found_at key (t ∷ ts) zero within h = key_same t.key key (h t)
found_at key (t ∷ ts) (suc i) within h = found_at key ts i (omega arith) (λ d. h d)

-- ---- a table put between others

belongs : (key : Key) (ts : List Table) (i : ℕ) → i ≤ length ts → AllWithin (λ t. key_cmp t.key key ≡ Less) ts 0 i → AllWithin (λ t. key_cmp t.key key ≡ Greater) ts i (length ts)
    → BelongsIn key ts i
belongs key [] i within lower greater = omega arith
belongs key (t ∷ ts) zero within lower greater =
    (greater 0 t (omega arith) (omega arith), belongs key ts zero (omega arith) (λ k d low high. absurd (omega arith)) (λ k d low high. greater (suc k) d (omega arith) (omega arith)))
belongs key (t ∷ ts) (suc i) within lower greater =
    (lower 0 t (omega arith) (omega arith), belongs key ts i (omega arith) (λ k d low high. lower (suc k) d (omega arith) (omega arith)) (λ k d low high. greater (suc k) d (omega arith) (omega arith)))

below_at : (k : Key) (ts : List Table) (i : ℕ) (t : Table) → AllByRecursion (λ q. key_cmp k q ≡ Less) (map (λ u. u.key) ts) → i < length ts
    → t ≡ get_or ts i t → key_cmp k t.key ≡ Less
below_at k [] i t h within is = absurd (omega arith)
below_at k (u ∷ ts) zero t h within is = ap (λ (x : Table). key_cmp k x.key) is ∙ h.0
below_at k (u ∷ ts) (suc i) t h within is = below_at k ts i t h.1 (omega arith) is

pub less_is : (o : Ordering) → is_lt o ≡ true → o ≡ Less
less_is Less h = refl
less_is Equal h = cc
less_is Greater h = cc

-- a key above that of the last table belongs behind all of them
pub belongs_last : (key : Key) (ts : List Table) (i : ℕ) (t : Table) → Rise ts → i + 1 ≡ length ts → t ≡ get_or ts i t → key_cmp t.key key ≡ Less
    → BelongsIn key ts (length ts)
unfolding IsStrictlySortedBy
belongs_last key [] i t rise last is below = absurd (omega (arith, last))
belongs_last key (u ∷ []) zero t rise last is below = (ap (λ (x : Table). key_cmp x.key key) (sym is) ∙ below, refl)
belongs_last key (u ∷ v ∷ ts) zero t rise last is below = absurd (omega (arith, last))
belongs_last key (u ∷ []) (suc i) t rise last is below = absurd (omega (arith, last))
belongs_last key (u ∷ v ∷ ts) (suc i) t rise last is below = (
  key_cmp_total.trans u.key t.key key (below_at u.key (v ∷ ts) i t rise.0 (omega (arith, last)) is) below,
  belongs_last key (v ∷ ts) i t rise.1 (omega (arith, last)) is below,
)

pub belongs_within : (key : Key) (ts : List Table) (i : ℕ) → BelongsIn key ts i → i ≤ length ts
belongs_within key [] i at = omega (arith, at)
belongs_within key (t ∷ ts) zero at = omega arith
belongs_within key (t ∷ ts) (suc i) at = let within = belongs_within key ts i at.1 in omega arith

module _ (t : Table) where
  turned : (u : Table) → key_cmp u.key t.key ≡ Greater → key_cmp t.key u.key ≡ Less
  turned u above = key_cmp_total.antisymm t.key u.key ∙ ap ordering_reverse above

  none_behind : (ts : List Table) → BelongsIn t.key ts zero → NoneHas t.key ts
  none_behind [] at = tt
  none_behind (u ∷ ts) at = (ap is_eq (turned u at.0), none_behind ts at.1)

  all_behind : (ts : List Table) → BelongsIn t.key ts zero → AllByRecursion (λ q. key_cmp t.key q ≡ Less) (map (λ u. u.key) ts)
  all_behind [] at = tt
  all_behind (u ∷ ts) at = (turned u at.0, all_behind ts at.1)

  all_joined_in : (groups : Groups) (ts : List Table) (i : ℕ) → BelongsIn t.key ts i → all_joined groups (insert ts i t) ≡ joined (all_joined groups ts) t
  all_joined_in groups [] zero at = refl
  all_joined_in groups [] (suc i) at = absurd (omega (arith, at))
  all_joined_in groups (u ∷ ts) zero at = past groups t (u ∷ ts) (none_behind (u ∷ ts) at)
  all_joined_in groups (u ∷ ts) (suc i) at = all_joined_in (joined groups u) ts i at.1

  pub joined_in : (ts : List Table) (i : ℕ) → BelongsIn t.key ts i → grouped (insert ts i t) ≡ joined (grouped ts) t
  joined_in ts i at = sym (joined_empty (insert ts i t)) ∙ all_joined_in fin.empty ts i at ∙ ap (λ g. joined g t) (joined_empty ts)

  above_in : (k : Key) (ts : List Table) (i : ℕ) → i ≤ length ts → AllByRecursion (λ q. key_cmp k q ≡ Less) (map (λ u. u.key) ts) → key_cmp k t.key ≡ Less
      → AllByRecursion (λ q. key_cmp k q ≡ Less) (map (λ u. u.key) (insert ts i t))
  above_in k [] zero within h below = (below, tt)
  above_in k [] (suc i) within h below = absurd (omega arith)
  above_in k (u ∷ ts) zero within h below = (below, h)
  above_in k (u ∷ ts) (suc i) within h below = (h.0, above_in k ts i (omega arith) h.1 below)

  pub rise_in : (ts : List Table) (i : ℕ) → BelongsIn t.key ts i → Rise ts → Rise (insert ts i t)
  unfolding IsStrictlySortedBy
  rise_in [] zero at rise = (tt, tt)
  rise_in [] (suc i) at rise = absurd (omega (arith, at))
  rise_in (u ∷ ts) zero at rise = (all_behind (u ∷ ts) at, rise)
  rise_in (u ∷ ts) (suc i) at rise = (above_in u.key ts i (belongs_within t.key ts i at.1) rise.0 at.0, rise_in ts i at.1 rise.1)

  pub lawful_in : (ts : List Table) (i : ℕ) → BelongsIn t.key ts i → IsLawfulTable t → AllByRecursion IsLawfulTable ts → AllByRecursion IsLawfulTable (insert ts i t)
  lawful_in [] zero at lawful each = (lawful, tt)
  lawful_in [] (suc i) at lawful each = absurd (omega (arith, at))
  lawful_in (u ∷ ts) zero at lawful each = (lawful, each)
  lawful_in (u ∷ ts) (suc i) at lawful each = (each.0, lawful_in ts i at.1 lawful each.1)

-- ---- what a search finds

pub search_found : (key : Key) (ts : List Table) (r : Result ℕ ℕ) → IsSearchInRange r (length ts) → IsBinarySearchResult (λ t. key_cmp t.key key) ts r → IfOk r (KeyAt key ts)
search_found key ts (Ok i) within h = found_at key ts i within h
search_found key ts (Err i) within h = tt

pub search_missed : (key : Key) (ts : List Table) (r : Result ℕ ℕ) → IsSearchInRange r (length ts) → IsBinarySearchResult (λ t. key_cmp t.key key) ts r → Rise ts → IfErr r (BelongsIn key ts)
search_missed key ts (Ok i) within h rise = tt
search_missed key ts (Err i) within h rise =
    let parts = h (searchable_from_sorted key_cmp_total (λ u. u.key) ts key (rise_sorted ts rise)) in
    belongs key ts i within parts.0 parts.1
