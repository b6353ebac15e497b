-- What operators keep of the keys and rows of tables.
use Rattle.std.proofs.Common.{◌≡◌, sym, subst, ◌∙◌, Bool, true, false, List, [], ◌∷◌, ◌++◌, map, length, ℕ, ℤ, arith}
use Rattle.std.specs.Prelude.{cond, if◌then◌else◌, codes}
use Rattle.std.specs.Cmp.{IsTotalOrder}
use Rattle.std.specs.declared.cmp.Ordering.{Ordering}
use Rattle.std.specs.declared.cmp.Ordering.TheVariants.{Less, Equal, Greater}
use Rattle.std.specs.FinMap as fin
use Rattle.std.specs.FinMap.{get, insert}
use Rattle.std.specs.FinMap.Entries.{by_order, put}
use Rattle.std.specs.List.{AllByRecursion, filter, flat_map}
use Rattle.std.specs.Ordering.{eq_by_cmp}
use Rattle.fx_value.specs.Ends.{End, Gives, and_then}
use Rattle.fx_value.specs.Works.{flat_each}
use Rattle.fx_data.specs.declared.key.Key.{Key}
use Rattle.fx_data.specs.declared.keyed_row.KeyedRow.{KeyedRow}
use Rattle.fx_data.specs.declared.table.Table.{Table}
use Rattle.fx_data.specs.Gathered.{gathered, grouped, rows_with, table_of}
use Rattle.fx_data.specs.Key.{key_cmp}
use Rattle.fx_data.specs.Regrouped.{alone, bare, regrouped, regrouped_with}
use Rattle.fx_data.specs.Table.{HasRisingLabels}
use Rattle.fx_data.proofs.Keys.{key_cmp_total}
use Rattle.fx_data.proofs.Lawful.{all-append}
use Rattle.fx_data.proofs.Regrouped.{alone_lawful}
use Rattle.fx_group.specs.Answer.{Meaning, tested, turned}
use Rattle.fx_group.specs.Filter.{filtered, kept_row, kept_rows, kept_table, kept_tables, table_if}
use Rattle.fx_group.specs.Map.{mapped, mapped_row, mapped_table, mapped_tables}
use Rattle.fx_group.specs.Range.{bounded, is_between, left_of, ranged, ranged_table, row_between}
use Rattle.fx_group.specs.RangeRows.{bounded_key}
use Rattle.fx_value.specs.declared.scalar.Scalar.TheVariants.{Time}
use Rattle.fx_meaning.specs.Rows.{Row}
use Rattle.fx_types.specs.Ground.{GroundRow}
use Rattle.fx_build.specs.Rows.{KeyFits, RowFits, TableFits, TablesFit}
use Rattle.fx_build.specs.Safe.{IsSafe}
use Rattle.fx_build.proofs.KeyLaws.{has_fits}
use Rattle.fx_build.proofs.SafeLaws.{safe_cut, safe_then}

-- ---- maps of what fits

-- a key that is as P says, with a value that is as Q says
abbrev pub IsPair : {K X : Type 0} → (K → Type 0) → (X → Type 0) → K × X → Type 0
IsPair P Q e = P e.0 × Q e.1

module _ {K X : Type 0} (cmp : K → K → Ordering) (total : IsTotalOrder cmp) (P : K → Type 0) (Q : X → Type 0) where
  put_pairs : (k : K) (v : X) (es : List (K × X)) → P k → Q v → AllByRecursion (IsPair P Q) es → AllByRecursion (IsPair P Q) (put cmp k v es)
  put_pairs k v [] h l all = ((h, l), tt)
  put_pairs k v (e ∷ es) h l all =
      elim (cmp k e.0) as (λ o. AllByRecursion (IsPair P Q) (by_order o ((k, v) ∷ e ∷ es) ((e.0, v) ∷ es) (e ∷ put cmp k v es))) [
        | Less ↦ ((h, l), all)
        | Equal ↦ ((all.0.0, l), all.1)
        | Greater ↦ (all.0, put_pairs k v es h l all.1)
      ]

  no_pairs : (es : List (K × X)) → length es ≡ 0 → AllByRecursion (IsPair P Q) es
  no_pairs [] none = tt
  no_pairs (e ∷ es) none = absurd (omega arith)

  pub pairs_of : (es : List (K × X)) → AllByRecursion (IsPair P Q) es → AllByRecursion (IsPair P Q) (fin.entries (fin.from_entries {R = cmp} es))
  pairs_of [] h = no_pairs _ (sym (fin.len-entries _) ∙ fin.len-empty cmp X)
  pairs_of (e ∷ es) h =
      subst (AllByRecursion (IsPair P Q)) (sym (fin.entries-insert total (fin.from_entries es) e.0 e.1)) (put_pairs e.0 e.1 _ h.0.0 h.0.1 (pairs_of es h.1))

-- ---- gathered tables

-- a row that fits, with a key whose labels rise
abbrev pub KeyedFits : GroundRow → KeyedRow → Type 0
KeyedFits r x = HasRisingLabels x.key × RowFits r x.row

-- a table whose key is as K says, and whose rows are as P says
abbrev pub HasParts : (Key → Type 0) → (Row → Type 0) → Table → Type 0
HasParts K P t = K t.key × AllByRecursion P t.rows

module _ (K : Key → Type 0) (P : Row → Type 0) where
  rows_under : (k : Key) (ts : List Table) → AllByRecursion (HasParts K P) ts → AllByRecursion P (rows_with k ts)
  rows_under k [] h = tt
  rows_under k (t ∷ ts) h =
      elim (eq_by_cmp key_cmp k t.key) as (λ b. AllByRecursion P (flat_map (λ u. u.rows) (cond b (t ∷ filter (λ u. eq_by_cmp key_cmp k u.key) ts) (filter (λ u. eq_by_cmp key_cmp k u.key) ts)))) [
        | true ↦ all-append P t.rows _ h.0.1 (rows_under k ts h.1)
        | false ↦ rows_under k ts h.1
      ]

  pairs_all : (ts us : List Table) → AllByRecursion (HasParts K P) ts → AllByRecursion (HasParts K P) us → AllByRecursion (IsPair K (AllByRecursion P)) (map (λ u. (u.key, rows_with u.key ts)) us)
  pairs_all ts [] h k = tt
  pairs_all ts (u ∷ us) h k = ((k.0.0, rows_under u.key ts h), pairs_all ts us h k.1)

  tables_all : (es : List (Key × List Row)) → AllByRecursion (IsPair K (AllByRecursion P)) es → AllByRecursion (HasParts K P) (map table_of es)
  tables_all [] h = tt
  tables_all (e ∷ es) h = (h.0, tables_all es h.1)

  -- gathered tables have the keys and the rows of the tables
  pub gathered_parts : (ts : List Table) → AllByRecursion (HasParts K P) ts → AllByRecursion (HasParts K P) (gathered ts)
  unfolding gathered grouped
  gathered_parts ts h = tables_all _ (pairs_of key_cmp key_cmp_total K (AllByRecursion P) _ (pairs_all ts ts h h))

module _ (r : GroundRow) where
  pub all_with : (k : Key) (ts : List Table) → TablesFit r ts → AllByRecursion (RowFits r) (rows_with k ts)
  all_with k ts h = rows_under (KeyFits r) (RowFits r) k ts h

  pub gathered_all : (ts : List Table) → TablesFit r ts → TablesFit r (gathered ts)
  gathered_all ts h = gathered_parts (KeyFits r) (RowFits r) ts h

  -- a row as a table
  pub alone_fits : (x : KeyedRow) → KeyedFits r x → TableFits r (alone x)
  alone_fits x h = let lawful = alone_lawful x.key x.row h.0 in ((lawful.rising, has_fits r (alone x).key.entries x.row lawful.columns.0 h.1), (h.1, tt))

  alone_all : (rows : List KeyedRow) → AllByRecursion (KeyedFits r) rows → TablesFit r (map alone rows)
  alone_all [] h = tt
  alone_all (x ∷ rows) h = (alone_fits x h.0, alone_all rows h.1)

  pub regrouped_all : (rows : List KeyedRow) → AllByRecursion (KeyedFits r) rows → TablesFit r (regrouped rows)
  regrouped_all rows h = gathered_all (map alone rows) (alone_all rows h)

  bare_all : (keys : List Key) → AllByRecursion (KeyFits r) keys → TablesFit r (map bare keys)
  bare_all [] h = tt
  bare_all (key ∷ keys) h = ((h.0, tt), bare_all keys h.1)

  pub regrouped_with_all : (rows : List KeyedRow) (empties : List Key) → AllByRecursion (KeyedFits r) rows → AllByRecursion (KeyFits r) empties → TablesFit r (regrouped_with rows empties)
  regrouped_with_all rows empties h k = gathered_all (map alone rows ++ map bare empties) (all-append (TableFits r) (map alone rows) (map bare empties) (alone_all rows h) (bare_all empties k))

  -- a table with the rows, or none
  pub if_all : (key : Key) (rows : List Row) → KeyFits r key → AllByRecursion (RowFits r) rows → TablesFit r (table_if key rows)
  if_all key [] is h = tt
  if_all key (row ∷ rows) is h = ((is, h), tt)

  pub left_all : (key : Key) (had rows : List Row) → KeyFits r key → AllByRecursion (RowFits r) rows → TablesFit r (left_of key had rows)
  left_all key had (row ∷ rows) is h = ((is, h), tt)
  left_all key [] [] is h = ((is, tt), tt)
  left_all key (row ∷ had) [] is h = tt

-- ---- work over lists

pub flat_each_safe : {X Y : Type 0} (P : X → Type 0) (Q : Y → Type 0) (step : X → End (List Y)) (xs : List X) → AllByRecursion P xs → ((x : X) → P x → IsSafe (AllByRecursion Q) (step x))
    → IsSafe (AllByRecursion Q) (flat_each step xs)
flat_each_safe P Q step [] h safe = tt
flat_each_safe P Q step (x ∷ xs) h safe =
    safe_then (AllByRecursion Q) (AllByRecursion Q) (step x) (λ ys. and_then (flat_each step xs) (λ zs. Gives (ys ++ zs) 0)) (safe x h.0)
    (λ ys first. safe_then (AllByRecursion Q) (AllByRecursion Q) (flat_each step xs) (λ zs. Gives (ys ++ zs) 0) (flat_each_safe P Q step xs h.1 safe)
    (λ zs rest. all-append Q ys zs first rest))

module _ (r : GroundRow) (means : Meaning) (limit : ℕ) (says : (row : Row) → RowFits r row → IsSafe (λ wanted. Unit {0}) (tested means limit row)) where
  one_or_none : (row : Row) (wanted : Bool) → RowFits r row → AllByRecursion (RowFits r) (if wanted then row ∷ [] else [])
  one_or_none row true h = (h, tt)
  one_or_none row false h = tt

  kept_safe : (t : Table) → TableFits r t → IsSafe (TablesFit r) (kept_table means limit t)
  kept_safe t h =
      safe_then (AllByRecursion (RowFits r)) (TablesFit r) (kept_rows means t.rows limit) (λ rows. Gives (table_if t.key rows) 0)
      (flat_each_safe (RowFits r) (RowFits r) (kept_row means limit) t.rows h.1
      (λ row is. safe_then (λ wanted. Unit {0}) (AllByRecursion (RowFits r)) (tested means limit row) (λ wanted. Gives (if wanted then row ∷ [] else []) 0) (says row is) (λ wanted _. one_or_none row wanted is)))
      (λ rows all. if_all r t.key rows h.0 all)

  -- rows that are wanted are rows
  pub filtered_safe : (tables : List Table) → TablesFit r tables → IsSafe (TablesFit r) (filtered means tables limit)
  unfolding filtered
  filtered_safe tables h = safe_cut (TablesFit r) limit (kept_tables means tables limit) (flat_each_safe (TableFits r) (TableFits r) (kept_table means limit) tables h kept_safe)

module _ (p q : GroundRow) (means : Meaning) (limit : ℕ) (makes : (row : Row) → RowFits p row → IsSafe (RowFits q) (turned means limit row)) where
  mapped_row_safe : (key : Key) (row : Row) → HasRisingLabels key → RowFits p row → IsSafe (AllByRecursion (KeyedFits q)) (mapped_row means key limit row)
  mapped_row_safe key row rising is =
      safe_then (RowFits q) (AllByRecursion (KeyedFits q)) (turned means limit row) (λ made. Gives (record { key = key; row = made } ∷ []) 0) (makes row is) (λ made h. ((rising, h), tt))

  pub mapped_safe : (tables : List Table) → TablesFit p tables → IsSafe (TablesFit q) (mapped means tables limit)
  unfolding mapped
  mapped_safe tables h =
      safe_cut (TablesFit q) limit (and_then (mapped_tables means tables limit) (λ rows. Gives (regrouped rows) 0))
      (safe_then (AllByRecursion (KeyedFits q)) (TablesFit q) (mapped_tables means tables limit) (λ rows. Gives (regrouped rows) 0)
      (flat_each_safe (TableFits p) (KeyedFits q) (mapped_table means limit) tables h
      (λ t all. flat_each_safe (RowFits p) (KeyedFits q) (mapped_row means t.key limit) t.rows all.1 (λ row is. mapped_row_safe t.key row all.0.0 is)))
      (λ rows all. regrouped_all q rows all))

module _ (p q : GroundRow) (start stop : ℤ) (timed : (row : Row) → RowFits p row → IsSafe (λ between. Unit {0}) (is_between start stop (get row (codes "_time"))))
    (set : (row : Row) → RowFits p row → RowFits q (insert (insert row (codes "_start") (Time start)) (codes "_stop") (Time stop))) (key_set : (key : Key) → KeyFits p key → KeyFits q (bounded_key start stop key)) where
  between_safe : (row : Row) → RowFits p row → IsSafe (AllByRecursion (RowFits p)) (row_between start stop row)
  between_safe row is =
      safe_then (λ between. Unit {0}) (AllByRecursion (RowFits p)) (is_between start stop (get row (codes "_time"))) (λ between. Gives (if between then row ∷ [] else []) 0) (timed row is)
      (λ between _. one_row between)
    where
      one_row : (between : Bool) → AllByRecursion (RowFits p) (if between then row ∷ [] else [])
      one_row true = (is, tt)
      one_row false = tt

  set_all : (rows : List Row) → AllByRecursion (RowFits p) rows → AllByRecursion (RowFits q) (map (λ row. insert row (codes "_stop") (Time stop)) (map (λ row. insert row (codes "_start") (Time start)) rows))
  set_all [] h = tt
  set_all (row ∷ rows) h = (set row h.0, set_all rows h.1)

  bounded_all : (ts : List Table) → TablesFit p ts → TablesFit q (map (bounded start stop) ts)
  bounded_all [] h = tt
  bounded_all (t ∷ ts) h = ((key_set t.key h.0.0, set_all t.rows h.0.1), bounded_all ts h.1)

  ranged_table_safe : (t : Table) → TableFits p t → IsSafe (TablesFit q) (ranged_table start stop t)
  ranged_table_safe t h =
      safe_then (AllByRecursion (RowFits p)) (TablesFit q) (flat_each (row_between start stop) t.rows) (λ rows. Gives (map (bounded start stop) (left_of t.key t.rows rows)) 0)
      (flat_each_safe (RowFits p) (RowFits p) (row_between start stop) t.rows h.1 between_safe)
      (λ rows all. bounded_all (left_of t.key t.rows rows) (left_all p t.key t.rows rows h.0 all))

  pub ranged_safe : (tables : List Table) → TablesFit p tables → IsSafe (TablesFit q) (ranged start stop tables)
  unfolding ranged
  ranged_safe tables h =
      safe_then (TablesFit q) (TablesFit q) (flat_each (ranged_table start stop) tables) (λ ts. Gives (gathered ts) 0)
      (flat_each_safe (TableFits p) (TableFits q) (ranged_table start stop) tables h ranged_table_safe)
      (λ ts all. gathered_all q ts all)
