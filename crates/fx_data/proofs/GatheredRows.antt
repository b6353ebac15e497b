-- What holds of each row under its table's key holds so of gathered tables.
use Rattle.std.proofs.Common.{◌≡◌, true, false, List, [], ◌∷◌, ◌++◌, map, length, refl, sym, subst, ◌∙◌, arith}
use Rattle.std.specs.Prelude.{cond}
use Rattle.std.specs.declared.cmp.Ordering.TheVariants.{Less, Equal, Greater}
use Rattle.std.specs.Ordering.{eq_by_cmp}
use Rattle.std.specs.List.{AllByRecursion, filter, flat_map}
use Rattle.std.specs.Cmp.{Equal-is}
use Rattle.std.specs.FinMap as fin
use Rattle.std.specs.FinMap.{FinMap}
use Rattle.std.specs.FinMap.Entries.{by_order, put}
use Rattle.fx_base.specs.Text.{text_cmp}
use Rattle.fx_value.specs.declared.scalar.Scalar.{Scalar}
use Rattle.fx_data.specs.declared.key.Key.{Key}
use Rattle.fx_data.specs.declared.table.Table.{Table}
use Rattle.fx_data.specs.Gathered.{rows_with, grouped, gathered, table_of}
use Rattle.fx_data.specs.Key.{key_cmp}
use Rattle.fx_data.proofs.Keys.{key_cmp_total, key_same}

abbrev Row : Type 0
Row = FinMap text_cmp Scalar

-- each row of the table has P under the table's key
abbrev pub EachRow : (Key → Row → Type 0) → Table → Type 0
EachRow P t = AllByRecursion (P t.key) t.rows

rows-append : (P : Row → Type 0) (xs ys : List Row) → AllByRecursion P xs → AllByRecursion P ys → AllByRecursion P (xs ++ ys)
rows-append P [] ys g h = h
rows-append P (x ∷ xs) ys g h = (g.0, rows-append P xs ys g.1 h)

module _ (P : Key → Row → Type 0) where
  -- a key with the rows under it
  abbrev EachUnder : Key × List Row → Type 0
  EachUnder e = EachRow P (table_of e)

  rows_of_none : (es : List (Key × List Row)) → length es ≡ 0 → AllByRecursion EachUnder es
  rows_of_none [] n = tt
  rows_of_none (e ∷ es) n = absurd (omega arith)

  rows_of_key : (k : Key) (ts : List Table) → AllByRecursion (EachRow P) ts → AllByRecursion (P k) (rows_with k ts)
  rows_of_key k [] h = tt
  rows_of_key k (t ∷ ts) h =
      elim (eq_by_cmp key_cmp k t.key) as (λ b. eq_by_cmp key_cmp k t.key ≡ b
      → AllByRecursion (P k) (flat_map (λ u. u.rows) (cond b (t ∷ filter (λ u. eq_by_cmp key_cmp k u.key) ts) (filter (λ u. eq_by_cmp key_cmp k u.key) ts)))) [
        | true ↦ λ b. rows-append (P k) t.rows _
            (subst (λ (q : Key). AllByRecursion (P q) t.rows) (sym (key_same k t.key ((Equal-is _).0 b))) h.0)
            (rows_of_key k ts h.1)
        | false ↦ λ b. rows_of_key k ts h.1
      ] refl

  rows_of_pairs : (ts us : List Table) → AllByRecursion (EachRow P) ts → AllByRecursion EachUnder (map (λ u. (u.key, rows_with u.key ts)) us)
  rows_of_pairs ts [] h = tt
  rows_of_pairs ts (u ∷ us) h = (rows_of_key u.key ts h, rows_of_pairs ts us h)

  rows-put : (k : Key) (v : List Row) (es : List (Key × List Row)) → EachUnder (k, v) → AllByRecursion EachUnder es → AllByRecursion EachUnder (put key_cmp k v es)
  rows-put k v [] g h = (g, tt)
  rows-put k v (e ∷ es) g h =
      elim (key_cmp k e.0) as (λ o. key_cmp k e.0 ≡ o → AllByRecursion EachUnder (by_order o ((k, v) ∷ e ∷ es) ((e.0, v) ∷ es) (e ∷ put key_cmp k v es))) [
        | Less ↦ λ o. (g, h)
        | Equal ↦ λ o. (subst (λ (q : Key). EachUnder (q, v)) (key_same k e.0 o) g, h.1)
        | Greater ↦ λ o. (h.0, rows-put k v es g h.1)
      ] refl

  rows-from_entries : (es : List (Key × List Row)) → AllByRecursion EachUnder es → AllByRecursion EachUnder (fin.entries (fin.from_entries {R = key_cmp} es))
  rows-from_entries [] h = rows_of_none _ (sym (fin.len-entries _) ∙ fin.len-empty key_cmp (List Row))
  rows-from_entries (e ∷ es) h =
      subst (AllByRecursion EachUnder) (sym (fin.entries-insert key_cmp_total (fin.from_entries es) e.0 e.1))
      (rows-put e.0 e.1 _ h.0 (rows-from_entries es h.1))

  rows_of_tables : (es : List (Key × List Row)) → AllByRecursion EachUnder es → AllByRecursion (EachRow P) (map table_of es)
  rows_of_tables [] h = tt
  rows_of_tables (e ∷ es) h = (h.0, rows_of_tables es h.1)

  rows_of_grouped : (ts : List Table) → AllByRecursion (EachRow P) ts → AllByRecursion EachUnder (fin.entries (grouped ts))
  unfolding grouped
  rows_of_grouped ts h = rows-from_entries _ (rows_of_pairs ts ts h)

  -- the rows of gathered tables have what the rows of the tables have
  pub gathered_rows : (ts : List Table) → AllByRecursion (EachRow P) ts → AllByRecursion (EachRow P) (gathered ts)
  unfolding gathered
  gathered_rows ts h = rows_of_tables _ (rows_of_grouped ts h)
