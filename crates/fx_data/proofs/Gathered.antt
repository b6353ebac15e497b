-- Tables gathered under their keys.
use Rattle.std.proofs.Common.{◌≡◌, Bool, true, false, List, [], ◌∷◌, ◌++◌, map, refl, sym, ap, subst, ◌∙◌, append_assoc}
use Rattle.std.proofs.lemmas.List.{append-nil}
use Rattle.std.specs.Prelude.{cond, ◌||◌, Option, None, Some}
use Rattle.std.specs.declared.cmp.Ordering.TheVariants.{Less}
use Rattle.std.specs.Ordering.{is_eq, eq_by_cmp}
use Rattle.std.specs.Option.{unwrap_or}
use Rattle.std.specs.List.{AllByRecursion, filter, flat_map, list_any}
use Rattle.std.specs.List.Sorted.{IsStrictlySortedBy}
use Rattle.std.specs.Map.{keys_of, lookup}
use Rattle.std.specs.BTreeMap.{is_at}
use Rattle.std.specs.Cmp.{Equal-is}
use Rattle.std.specs.FinMap as fin
use Rattle.std.specs.FinMap.{FinMap}
use Rattle.std.specs.FinMap.Entries.{find, same_entries}
use Rattle.fx_base.specs.Text.{text_cmp}
use Rattle.fx_value.specs.declared.scalar.Scalar.{Scalar}
use Rattle.fx_data.specs.declared.key.Key.{Key}
use Rattle.fx_data.specs.declared.table.Table.{Table}
use Rattle.fx_data.specs.Gathered.{rows_with, grouped, gathered, table_of}
use Rattle.fx_data.specs.Key.{key_cmp}
use Rattle.fx_data.proofs.Keys.{key_cmp_total, key_same}
use Rattle.fx_data.proofs.Sorted.{sorted_keys}

abbrev pub Rows : Type 0
Rows = List (FinMap text_cmp Scalar)

-- whether a table has this key
has : Key → List Table → Bool
has k = list_any (λ t. eq_by_cmp key_cmp k t.key)

-- the rows under a key, where a table has it
rows_at : Key → List Table → Option Rows
rows_at k ts = cond (has k ts) (Some (rows_with k ts)) None

find-by_key : (f : Key → Rows) (k : Key) (us : List Table) → find key_cmp k (map (λ t. (t.key, f t.key)) us) ≡ cond (has k us) (Some (f k)) None
unfolding has
find-by_key f k [] = refl
find-by_key f k (u ∷ us) =
    elim (eq_by_cmp key_cmp k u.key) as (λ t. eq_by_cmp key_cmp k u.key ≡ t
    → cond t (Some (f u.key)) (find key_cmp k (map (λ t. (t.key, f t.key)) us)) ≡ cond (t || has k us) (Some (f k)) None) [
      | true ↦ λ t. ap (λ q. Some (f q)) (sym (key_same k u.key ((Equal-is _).0 t)))
      | false ↦ λ t. find-by_key f k us
    ] refl

get-grouped : (k : Key) (ts : List Table) → fin.get (grouped ts) k ≡ rows_at k ts
unfolding grouped rows_at
get-grouped k ts = fin.get-from_entries key_cmp_total _ k ∙ find-by_key (λ q. rows_with q ts) k ts

-- no rows stand under a key that no table has
none_with : (k : Key) (ts : List Table) → has k ts ≡ false → rows_with k ts ≡ []
unfolding has
none_with k [] h = refl
none_with k (t ∷ ts) h =
    elim (eq_by_cmp key_cmp k t.key) as (λ b. (b || has k ts) ≡ false → flat_map (λ u. u.rows) (cond b (t ∷ filter (λ u. eq_by_cmp key_cmp k u.key) ts) (filter (λ u. eq_by_cmp key_cmp k u.key) ts)) ≡ []) [
      | true ↦ λ h. cc
      | false ↦ λ h. none_with k ts h
    ] h

unwrapped : (k : Key) (ts : List Table) → unwrap_or (rows_at k ts) [] ≡ rows_with k ts
unfolding rows_at
unwrapped k ts =
    elim (has k ts) as (λ b. has k ts ≡ b → unwrap_or (cond b (Some (rows_with k ts)) None) [] ≡ rows_with k ts) [
      | true ↦ λ h. refl
      | false ↦ λ h. sym (none_with k ts h)
    ] refl

has-append : (k : Key) (ts : List Table) (t : Table) → has k (ts ++ t ∷ []) ≡ cond (eq_by_cmp key_cmp k t.key) true (has k ts)
unfolding has
has-append k [] t =
    elim (eq_by_cmp key_cmp k t.key) as (λ b. (b || false) ≡ cond b true false) [ true ↦ refl | false ↦ refl ]
has-append k (u ∷ ts) t =
    ap (λ b. eq_by_cmp key_cmp k u.key || b) (has-append k ts t)
    ∙ elim (eq_by_cmp key_cmp k u.key) as (λ a. (a || cond (eq_by_cmp key_cmp k t.key) true (has k ts)) ≡ cond (eq_by_cmp key_cmp k t.key) true (a || has k ts)) [
      | true ↦ elim (eq_by_cmp key_cmp k t.key) as (λ b. true ≡ cond b true true) [ true ↦ refl | false ↦ refl ]
      | false ↦ refl
    ]

rows_with-append : (k : Key) (ts : List Table) (t : Table)
    → rows_with k (ts ++ t ∷ []) ≡ cond (eq_by_cmp key_cmp k t.key) (rows_with k ts ++ t.rows) (rows_with k ts)
rows_with-append k [] t =
    elim (eq_by_cmp key_cmp k t.key) as (λ b. flat_map (λ u. u.rows) (cond b (t ∷ []) []) ≡ cond b t.rows []) [
      | true ↦ append-nil t.rows
      | false ↦ refl
    ]
rows_with-append k (u ∷ ts) t =
    elim (eq_by_cmp key_cmp k u.key) as (λ a. flat_map (λ v. v.rows) (cond a (u ∷ filter (λ v. eq_by_cmp key_cmp k v.key) (ts ++ t ∷ [])) (filter (λ v. eq_by_cmp key_cmp k v.key) (ts ++ t ∷ [])))
    ≡ cond (eq_by_cmp key_cmp k t.key) (flat_map (λ v. v.rows) (cond a (u ∷ filter (λ v. eq_by_cmp key_cmp k v.key) ts) (filter (λ v. eq_by_cmp key_cmp k v.key) ts)) ++ t.rows)
    (flat_map (λ v. v.rows) (cond a (u ∷ filter (λ v. eq_by_cmp key_cmp k v.key) ts) (filter (λ v. eq_by_cmp key_cmp k v.key) ts)))) [
      | true ↦ ap (λ rs. u.rows ++ rs) (rows_with-append k ts t)
          ∙ elim (eq_by_cmp key_cmp k t.key) as (λ b. u.rows ++ cond b (rows_with k ts ++ t.rows) (rows_with k ts) ≡ cond b ((u.rows ++ rows_with k ts) ++ t.rows) (u.rows ++ rows_with k ts)) [
            | true ↦ sym (append_assoc u.rows (rows_with k ts) t.rows)
            | false ↦ refl
          ]
      | false ↦ rows_with-append k ts t
    ]

rows_at-append : (k : Key) (ts : List Table) (t : Table)
    → rows_at k (ts ++ t ∷ []) ≡ cond (eq_by_cmp key_cmp k t.key) (Some (unwrap_or (rows_at k ts) [] ++ t.rows)) (rows_at k ts)
unfolding rows_at
rows_at-append k ts t =
    let whole : rows_at k (ts ++ t ∷ []) ≡ cond (cond (eq_by_cmp key_cmp k t.key) true (has k ts)) (Some (cond (eq_by_cmp key_cmp k t.key) (rows_with k ts ++ t.rows) (rows_with k ts))) None
    = λ i. cond (has-append k ts t i) (Some (rows_with-append k ts t i)) None in
    whole ∙ elim (eq_by_cmp key_cmp k t.key) as (λ b. cond (cond b true (has k ts)) (Some (cond b (rows_with k ts ++ t.rows) (rows_with k ts))) None ≡ cond b (Some (unwrap_or (rows_at k ts) [] ++ t.rows)) (rows_at k ts)) [
      | true ↦ ap (λ (rs : Rows). Some (rs ++ t.rows)) (sym (unwrapped k ts))
      | false ↦ refl
    ]

-- one more table puts its rows behind those under its key
pub get-grouped-append : (k : Key) (ts : List Table) (t : Table)
    → fin.get (grouped (ts ++ t ∷ [])) k ≡ cond (eq_by_cmp key_cmp k t.key) (Some (unwrap_or (fin.get (grouped ts) k) [] ++ t.rows)) (fin.get (grouped ts) k)
get-grouped-append k ts t =
    get-grouped k (ts ++ t ∷ []) ∙ rows_at-append k ts t
    ∙ ap (λ o. cond (eq_by_cmp key_cmp k t.key) (Some (unwrap_or o [] ++ t.rows)) o) (sym (get-grouped k ts))

-- whether anything is left
any_left : {X : Type 0} → List X → Bool
any_left [] = false
any_left (x ∷ xs) = true

has-filter : (k : Key) (ts : List Table) → has k ts ≡ any_left (filter (λ t. eq_by_cmp key_cmp k t.key) ts)
unfolding has any_left
has-filter k [] = refl
has-filter k (t ∷ ts) =
    elim (eq_by_cmp key_cmp k t.key) as (λ b. (b || has k ts) ≡ any_left (cond b (t ∷ filter (λ u. eq_by_cmp key_cmp k u.key) ts) (filter (λ u. eq_by_cmp key_cmp k u.key) ts))) [
      | true ↦ refl
      | false ↦ has-filter k ts
    ]

-- tables of which those with one key are the same, key by key, make the same groups
pub grouped_by_rows : (ts us : List Table) → ((k : Key) → filter (λ t. eq_by_cmp key_cmp k t.key) ts ≡ filter (λ t. eq_by_cmp key_cmp k t.key) us) → grouped ts ≡ grouped us
unfolding rows_at
grouped_by_rows ts us same =
    fin.same_map key_cmp_total key_same _ _ (λ k.
    get-grouped k ts
    ∙ (λ i. cond (has-filter k ts i) (Some (rows_with k ts)) None)
    ∙ (λ i. cond (any_left (same k i)) (Some (flat_map (λ (t : Table). t.rows) (same k i))) None)
    ∙ (λ i. cond (sym (has-filter k us) i) (Some (rows_with k us)) None)
    ∙ sym (get-grouped k us))

-- ---- as lists in the order of the keys

lookup-find : (k : Key) (es : List (Key × Rows)) → lookup (is_at (key_cmp k)) es ≡ find key_cmp k es
lookup-find k [] = refl
lookup-find k (e ∷ es) = ap (cond (eq_by_cmp key_cmp k e.0) (Some e.1)) (lookup-find k es)

-- entries that answer as the groups do are theirs
entries_are : (es : List (Key × Rows)) (ts : List Table) → IsStrictlySortedBy key_cmp (keys_of es)
    → ((k : Key) → lookup (is_at (key_cmp k)) es ≡ fin.get (grouped ts) k) → map table_of es ≡ gathered ts
unfolding gathered
entries_are es ts sorted answers =
    ap (map table_of) (same_entries key_cmp key_cmp_total key_same es (fin.entries (grouped ts)) (sorted_keys key_cmp es sorted) (fin.entries_sorted (grouped ts))
    (λ k. sym (lookup-find k es) ∙ answers k ∙ fin.get-entries (grouped ts) k))

-- ---- tables whose keys rise

has_none : (k : Key) (ts : List Table) → AllByRecursion (λ q. key_cmp k q ≡ Less) (map (λ t. t.key) ts) → has k ts ≡ false
unfolding has
has_none k [] h = refl
has_none k (t ∷ ts) h = ap (λ o. is_eq o || has k ts) h.0 ∙ has_none k ts h.1

abbrev pair_of : Table → Key × Rows
pair_of t = (t.key, t.rows)

find-pairs : (k : Key) (ts : List Table) → IsStrictlySortedBy key_cmp (map (λ t. t.key) ts) → find key_cmp k (map pair_of ts) ≡ rows_at k ts
unfolding IsStrictlySortedBy rows_at has
find-pairs k [] h = refl
find-pairs k (t ∷ ts) h =
    elim (eq_by_cmp key_cmp k t.key) as (λ b. eq_by_cmp key_cmp k t.key ≡ b → cond b (Some t.rows) (find key_cmp k (map pair_of ts))
    ≡ cond (b || has k ts) (Some (flat_map (λ u. u.rows) (cond b (t ∷ filter (λ u. eq_by_cmp key_cmp k u.key) ts) (filter (λ u. eq_by_cmp key_cmp k u.key) ts)))) None) [
      | true ↦ λ b.
          let above = subst (λ (q : Key). AllByRecursion (λ p. key_cmp q p ≡ Less) (map (λ u. u.key) ts)) (sym (key_same k t.key ((Equal-is _).0 b))) h.0 in
          ap (λ (rs : Rows). Some rs) (sym (append-nil t.rows) ∙ ap (λ (rs : Rows). t.rows ++ rs) (sym (none_with k ts (has_none k ts above))))
      | false ↦ λ b. find-pairs k ts h.1
    ] refl

keys-pairs : (ts : List Table) → keys_of (map pair_of ts) ≡ map (λ t. t.key) ts
keys-pairs [] = refl
keys-pairs (t ∷ ts) = ap (λ ks. t.key ∷ ks) (keys-pairs ts)

tables-pairs : (ts : List Table) → map table_of (map pair_of ts) ≡ ts
tables-pairs [] = refl
tables-pairs (t ∷ ts) = ap (λ us. t ∷ us) (tables-pairs ts)

-- tables whose keys rise are gathered as they are
pub gathered_rising : (ts : List Table) → IsStrictlySortedBy key_cmp (map (λ t. t.key) ts) → gathered ts ≡ ts
gathered_rising ts h =
    sym (entries_are (map pair_of ts) ts (subst (IsStrictlySortedBy key_cmp) (sym (keys-pairs ts)) h)
    (λ k. lookup-find k (map pair_of ts) ∙ find-pairs k ts h ∙ sym (get-grouped k ts))) ∙ tables-pairs ts

-- tables that make the same groups are gathered to the same tables
pub gathered_same : (ts us : List Table) → grouped ts ≡ grouped us → gathered ts ≡ gathered us
unfolding gathered
gathered_same ts us same = ap (λ (groups : FinMap key_cmp Rows). map table_of (fin.entries groups)) same
