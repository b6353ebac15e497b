-- Lists of lawful tables, and that gathered tables are lawful.
use Rattle.std.proofs.Common.{◌≡◌, true, false, List, [], ◌∷◌, ◌++◌, map, length, refl, sym, ap, subst, ◌∙◌, arith}
use Rattle.std.proofs.lemmas.List.{append-nil}
use Rattle.std.specs.Prelude.{cond}
use Rattle.std.specs.declared.cmp.Ordering.TheVariants.{Less, Equal, Greater}
use Rattle.std.specs.Ordering.{eq_by_cmp}
use Rattle.std.specs.List.{AllByRecursion, filter, flat_map}
use Rattle.std.specs.List.Sorted.{IsStrictlySortedBy}
use Rattle.std.specs.Cmp.{Equal-is}
use Rattle.std.specs.FinMap as fin
use Rattle.std.specs.FinMap.{FinMap}
use Rattle.std.specs.FinMap.Entries.{by_order, put}
use Rattle.fx_base.specs.Text.{text_cmp}
use Rattle.fx_value.specs.declared.scalar.Scalar.{Scalar}
use Rattle.fx_data.specs.declared.key.Key.{Key}
use Rattle.fx_data.specs.declared.table.Table.{Table}
use Rattle.fx_data.specs.Gathered.{rows_with, grouped, gathered, table_of}
use Rattle.fx_data.specs.Key.{key_cmp}
use Rattle.fx_data.specs.Regrouped.{bare}
use Rattle.fx_data.specs.Table.{HasKey, HasRisingLabels, IsLawfulTable, AreLawful}
use Rattle.fx_data.proofs.Keys.{key_cmp_total, key_same}
use Rattle.fx_data.proofs.Sorted.{keys_rise}

pub no_tables_lawful : AreLawful []
unfolding IsStrictlySortedBy
no_tables_lawful = record { each = tt; rising = tt }

abbrev Rows : Type 0
Rows = List (FinMap text_cmp Scalar)

-- a key with lawful rows
abbrev IsGood : Key × Rows → Type 0
IsGood e = IsLawfulTable (table_of e)

pub all-append : {X : Type 0} (P : X → Type 0) (xs ys : List X) → AllByRecursion P xs → AllByRecursion P ys → AllByRecursion P (xs ++ ys)
all-append P [] ys g h = h
all-append P (x ∷ xs) ys g h = (g.0, all-append P xs ys g.1 h)

-- lawful tables and one more
pub lawful_push : (old new : List Table) (t : Table) → new ≡ old ++ t ∷ [] → AllByRecursion IsLawfulTable old → IsLawfulTable t → AllByRecursion IsLawfulTable new
lawful_push old new t is g h = subst (AllByRecursion IsLawfulTable) (sym is) (all-append IsLawfulTable old (t ∷ []) g (h, tt))

all_of_none : (es : List (Key × Rows)) → length es ≡ 0 → AllByRecursion IsGood es
all_of_none [] n = tt
all_of_none (e ∷ es) n = absurd (omega arith)

-- ---- each table

-- the rows under a key are lawful for it
all_with : (k : Key) (ts : List Table) → AllByRecursion IsLawfulTable ts → AllByRecursion (HasKey k.entries) (rows_with k ts)
all_with k [] h = tt
all_with k (t ∷ ts) h =
    elim (eq_by_cmp key_cmp k t.key) as (λ b. eq_by_cmp key_cmp k t.key ≡ b
    → AllByRecursion (HasKey k.entries) (flat_map (λ u. u.rows) (cond b (t ∷ filter (λ u. eq_by_cmp key_cmp k u.key) ts) (filter (λ u. eq_by_cmp key_cmp k u.key) ts)))) [
      | true ↦ λ b. all-append _ t.rows _
          (subst (λ (q : Key). AllByRecursion (HasKey q.entries) t.rows) (sym (key_same k t.key ((Equal-is _).0 b))) h.0.columns)
          (all_with k ts h.1)
      | false ↦ λ b. all_with k ts h.1
    ] refl

all_pairs : (ts us : List Table) → AllByRecursion IsLawfulTable ts → AllByRecursion IsLawfulTable us
    → AllByRecursion IsGood (map (λ u. (u.key, rows_with u.key ts)) us)
all_pairs ts [] g h = tt
all_pairs ts (u ∷ us) g h = (record { rising = h.0.rising; columns = all_with u.key ts g }, all_pairs ts us g h.1)

all-put : (k : Key) (v : Rows) (es : List (Key × Rows)) → IsGood (k, v) → AllByRecursion IsGood es → AllByRecursion IsGood (put key_cmp k v es)
all-put k v [] g h = (g, tt)
all-put k v (e ∷ es) g h =
    elim (key_cmp k e.0) as (λ o. key_cmp k e.0 ≡ o → AllByRecursion IsGood (by_order o ((k, v) ∷ e ∷ es) ((e.0, v) ∷ es) (e ∷ put key_cmp k v es))) [
      | Less ↦ λ o. (g, h)
      | Equal ↦ λ o. (subst (λ (q : Key). IsGood (q, v)) (key_same k e.0 o) g, h.1)
      | Greater ↦ λ o. (h.0, all-put k v es g h.1)
    ] refl

all-from_entries : (es : List (Key × Rows)) → AllByRecursion IsGood es → AllByRecursion IsGood (fin.entries (fin.from_entries {R = key_cmp} es))
all-from_entries [] h = all_of_none _ (sym (fin.len-entries _) ∙ fin.len-empty key_cmp Rows)
all-from_entries (e ∷ es) h =
    subst (AllByRecursion IsGood) (sym (fin.entries-insert key_cmp_total (fin.from_entries es) e.0 e.1))
    (all-put e.0 e.1 _ h.0 (all-from_entries es h.1))

all_tables : (es : List (Key × Rows)) → AllByRecursion IsGood es → AllByRecursion IsLawfulTable (map table_of es)
all_tables [] h = tt
all_tables (e ∷ es) h = (h.0, all_tables es h.1)

all_good : (ts : List Table) → AllByRecursion IsLawfulTable ts → AllByRecursion IsGood (fin.entries (grouped ts))
unfolding grouped
all_good ts h = all-from_entries _ (all_pairs ts ts h h)

-- ---- the order of the keys

keys_of_tables : (es : List (Key × Rows)) → map (λ t. t.key) (map table_of es) ≡ map (λ e. e.0) es
keys_of_tables [] = refl
keys_of_tables (e ∷ es) = ap (λ ks. e.0 ∷ ks) (keys_of_tables es)

-- lawful tables that are gathered are lawful, and their keys rise
pub gathered_lawful : (ts : List Table) → AllByRecursion IsLawfulTable ts → AreLawful (gathered ts)
unfolding gathered
gathered_lawful ts h =
    let es = fin.entries (grouped ts) in
    record { each = all_tables _ (all_good ts h); rising = subst (IsStrictlySortedBy key_cmp) (sym (keys_of_tables es)) (keys_rise key_cmp es (fin.entries_sorted (grouped ts))) }

-- ---- fewer rows, and fewer tables

-- a table without rows is lawful where the labels of its key rise
pub bare_lawful : (key : Key) → HasRisingLabels key → IsLawfulTable (bare key)
bare_lawful key rising = record { rising = rising; columns = tt }

-- as many rows as are wanted of those that have the key
pub fewer_lawful : (t : Table) (rows : Rows) → IsLawfulTable t → AllByRecursion (HasKey t.key.entries) rows → IsLawfulTable (record { key = t.key; rows = rows })
fewer_lawful t rows h columns = record { rising = h.rising; columns = columns }

each_without : {X : Type 0} (P : X → Type 0) (xs ys : List X) (x : X) → AllByRecursion P (xs ++ x ∷ ys) → AllByRecursion P (xs ++ ys)
each_without P [] ys x h = h.1
each_without P (w ∷ xs) ys x h = (h.0, each_without P xs ys x h.1)

each_with : {X : Type 0} (P : X → Type 0) (xs ys : List X) (x y : X) → (P x → P y) → AllByRecursion P (xs ++ x ∷ ys) → AllByRecursion P (xs ++ y ∷ ys)
each_with P [] ys x y change h = (change h.0, h.1)
each_with P (w ∷ xs) ys x y change h = (h.0, each_with P xs ys x y change h.1)

each_at : {X : Type 0} (P : X → Type 0) (xs ys : List X) (x : X) → AllByRecursion P (xs ++ x ∷ ys) → P x
each_at P [] ys x h = h.0
each_at P (w ∷ xs) ys x h = each_at P xs ys x h.1

abbrev keys : List Table → List Key
keys = map (λ t. t.key)

above_without : (k : Key) (ts us : List Table) (t : Table) → AllByRecursion (λ q. key_cmp k q ≡ Less) (keys (ts ++ t ∷ us)) → AllByRecursion (λ q. key_cmp k q ≡ Less) (keys (ts ++ us))
above_without k [] us t h = h.1
above_without k (s ∷ ts) us t h = (h.0, above_without k ts us t h.1)

rising_without : (ts us : List Table) (t : Table) → IsStrictlySortedBy key_cmp (keys (ts ++ t ∷ us)) → IsStrictlySortedBy key_cmp (keys (ts ++ us))
unfolding IsStrictlySortedBy
rising_without [] us t h = h.1
rising_without (s ∷ ts) us t h = (above_without s.key ts us t h.0, rising_without ts us t h.1)

-- lawful tables without one of them are lawful
pub without_table : (ts us : List Table) (t : Table) → AreLawful (ts ++ t ∷ us) → AreLawful (ts ++ us)
without_table ts us t h = record { each = each_without IsLawfulTable ts us t h.each; rising = rising_without ts us t h.rising }

keys_with : (ts us : List Table) (t : Table) (rows : Rows) → keys (ts ++ t ∷ us) ≡ keys (ts ++ record { key = t.key; rows = rows } ∷ us)
keys_with [] us t rows = refl
keys_with (s ∷ ts) us t rows = ap (λ ks. s.key ∷ ks) (keys_with ts us t rows)

-- lawful tables with other rows under one of the keys, which have that key, are lawful
pub with_rows : (ts us : List Table) (t : Table) (rows : Rows) → AreLawful (ts ++ t ∷ us) → AllByRecursion (HasKey t.key.entries) rows
    → AreLawful (ts ++ record { key = t.key; rows = rows } ∷ us)
with_rows ts us t rows h columns = record {
  each = each_with IsLawfulTable ts us t (record { key = t.key; rows = rows }) (λ lawful. fewer_lawful t rows lawful columns) h.each;
  rising = subst (IsStrictlySortedBy key_cmp) (keys_with ts us t rows) h.rising;
}

-- the table among lawful ones
pub lawful_at : (ts us : List Table) (t : Table) → AreLawful (ts ++ t ∷ us) → IsLawfulTable t
lawful_at ts us t h = each_at IsLawfulTable ts us t h.each

-- the tables before the last, and the last
pub lawful_before : (old front : List Table) (last : Table) → old ≡ front ++ last ∷ [] → AllByRecursion IsLawfulTable old → AllByRecursion IsLawfulTable front
lawful_before old front last is h =
    subst (AllByRecursion IsLawfulTable) (append-nil front) (each_without IsLawfulTable front [] last (subst (AllByRecursion IsLawfulTable) is h))

pub lawful_last : (old front : List Table) (last : Table) → old ≡ front ++ last ∷ [] → AllByRecursion IsLawfulTable old → IsLawfulTable last
lawful_last old front last is h = each_at IsLawfulTable front [] last (subst (AllByRecursion IsLawfulTable) is h)
