-- A table with one more column that all of its rows share is lawful.
use Rattle.std.proofs.Common.{◌≡◌, ℕ, Bool, true, false, List, [], ◌∷◌, map, refl, sym, ap, subst, ◌∙◌}
use Rattle.std.specs.Prelude.{cond, Some}
use Rattle.std.specs.declared.cmp.Ordering.TheVariants.{Less, Equal, Greater}
use Rattle.std.specs.Ordering.{is_eq, eq_by_cmp}
use Rattle.std.specs.Cmp.{eq_by_cmp_equiv}
use Rattle.std.specs.Cmp.Lexicographic.{nat_list_cmp_total}
use Rattle.std.specs.List.{AllByRecursion}
use Rattle.std.specs.List.Sorted.{IsStrictlySortedBy}
use Rattle.std.specs.FinMap as fin
use Rattle.std.specs.FinMap.{FinMap}
use Rattle.std.specs.FinMap.Entries.{by_order, put, is_sorted-put}
use Rattle.fx_base.specs.Text.{text_cmp}
use Rattle.fx_value.specs.declared.scalar.Scalar.{Scalar}
use Rattle.fx_value.proofs.Rows.{text_same}
use Rattle.fx_data.specs.Columns.{parts_of, entry_of, key_with, with_column}
use Rattle.fx_data.specs.declared.key.Key.{Key}
use Rattle.fx_data.specs.declared.key.KeyEntry.{KeyEntry}
use Rattle.fx_data.specs.declared.table.Table.{Table}
use Rattle.fx_data.specs.Table.{HasKey, HasRisingLabels, IsLawfulTable}
use Rattle.fx_data.proofs.Sorted.{sorted_keys, keys_rise}

-- entries in parts and back
pub entries_back : (es : List KeyEntry) → map entry_of (map parts_of es) ≡ es
entries_back [] = refl
entries_back (e ∷ es) = ap (λ ds. e ∷ ds) (entries_back es)

labels_of_parts : (es : List KeyEntry) → map (λ p. p.0) (map parts_of es) ≡ map (λ e. e.label) es
labels_of_parts [] = refl
labels_of_parts (e ∷ es) = ap (λ ls. e.label ∷ ls) (labels_of_parts es)

labels_of_entries : (ps : List (List ℕ × (Scalar × Bool))) → map (λ e. e.label) (map entry_of ps) ≡ map (λ p. p.0) ps
labels_of_entries [] = refl
labels_of_entries (p ∷ ps) = ap (λ ls. p.0 ∷ ls) (labels_of_entries ps)

pub key_with_rises : (key : Key) (label : List ℕ) (value : Scalar) → HasRisingLabels key → HasRisingLabels (key_with key label value)
key_with_rises key label value h =
    let parts = map parts_of key.entries in
    let sorted = sorted_keys text_cmp parts (subst (IsStrictlySortedBy text_cmp) (sym (labels_of_parts key.entries)) h) in
    subst (IsStrictlySortedBy text_cmp) (sym (labels_of_entries (put text_cmp label (value, false) parts)))
    (keys_rise text_cmp (put text_cmp label (value, false) parts) (is_sorted-put text_cmp nat_list_cmp_total label (value, false) parts sorted))

module _ (label : List ℕ) (value : Scalar) (row : FinMap text_cmp Scalar) where
  at_label : (q : List ℕ) → eq_by_cmp text_cmp label q ≡ true → fin.get (fin.insert row label value) q ≡ Some value
  at_label q tie =
      fin.get-insert nat_list_cmp_total row label value q
      ∙ ap (λ b. cond b (Some value) (fin.get row q)) ((eq_by_cmp_equiv nat_list_cmp_total).symm q label ∙ tie)

  elsewhere : (q : List ℕ) → eq_by_cmp text_cmp label q ≡ false → fin.get (fin.insert row label value) q ≡ fin.get row q
  elsewhere q apart =
      fin.get-insert nat_list_cmp_total row label value q
      ∙ ap (λ b. cond b (Some value) (fin.get row q)) ((eq_by_cmp_equiv nat_list_cmp_total).symm q label ∙ apart)

  -- entries with greater labels
  others : (es : List KeyEntry) → AllByRecursion (λ q. text_cmp label q ≡ Less) (map (λ e. e.label) es) → HasKey es row → HasKey es (fin.insert row label value)
  others [] above h = tt
  others (e ∷ es) above h = (elsewhere e.label (ap is_eq above.0) ∙ h.0, others es above.1 h.1)

  others_back : (es : List KeyEntry) → AllByRecursion (λ q. text_cmp label q ≡ Less) (map (λ e. e.label) es) → HasKey es row → HasKey (map entry_of (map parts_of es)) (fin.insert row label value)
  others_back es above h = subst (λ ds. HasKey ds (fin.insert row label value)) (sym (entries_back es)) (others es above h)

  above_all : (l : List ℕ) (ls : List (List ℕ)) → text_cmp label l ≡ Less → AllByRecursion (λ q. text_cmp l q ≡ Less) ls → AllByRecursion (λ q. text_cmp label q ≡ Less) ls
  above_all l [] below h = tt
  above_all l (q ∷ ls) below h = (nat_list_cmp_total.trans label l q below h.0, above_all l ls below h.1)

  -- a row with the value has the key with the column
  has_column : (es : List KeyEntry) → IsStrictlySortedBy text_cmp (map (λ e. e.label) es) → HasKey es row
      → HasKey (map entry_of (put text_cmp label (value, false) (map parts_of es))) (fin.insert row label value)
  unfolding IsStrictlySortedBy
  has_column [] rising h = (at_label label ((eq_by_cmp_equiv nat_list_cmp_total).refl label), tt)
  has_column (e ∷ es) rising h =
      elim (text_cmp label e.label) as (λ o. text_cmp label e.label ≡ o
      → HasKey (map entry_of (by_order o ((label, (value, false)) ∷ parts_of e ∷ map parts_of es) ((e.label, (value, false)) ∷ map parts_of es) (parts_of e ∷ put text_cmp label (value, false) (map parts_of es)))) (fin.insert row label value)) [
        | Less ↦ λ o. (at_label label ((eq_by_cmp_equiv nat_list_cmp_total).refl label), others_back (e ∷ es) (o, above_all e.label (map (λ d. d.label) es) o rising.0) h)
        | Equal ↦ λ o. (
          at_label e.label (ap is_eq o),
          others_back es (subst (λ l. AllByRecursion (λ q. text_cmp l q ≡ Less) (map (λ d. d.label) es)) (sym (text_same label e.label o)) rising.0) h.1,
        )
        | Greater ↦ λ o. (elsewhere e.label (ap is_eq o) ∙ h.0, has_column es rising.1 h.1)
      ] refl

rows_have : (label : List ℕ) (value : Scalar) (es : List KeyEntry) (rows : List (FinMap text_cmp Scalar)) → IsStrictlySortedBy text_cmp (map (λ e. e.label) es)
    → AllByRecursion (HasKey es) rows
    → AllByRecursion (HasKey (map entry_of (put text_cmp label (value, false) (map parts_of es)))) (map (λ row. fin.insert row label value) rows)
rows_have label value es [] rising h = tt
rows_have label value es (row ∷ rows) rising h = (has_column label value row es rising h.0, rows_have label value es rows rising h.1)

-- a lawful table with one more shared column is lawful
pub column_lawful : (label : List ℕ) (value : Scalar) (t : Table) → IsLawfulTable t → IsLawfulTable (with_column label value t)
column_lawful label value t h = record {
  rising = key_with_rises t.key label value h.rising;
  columns = rows_have label value t.key.entries t.rows h.rising h.columns;
}
