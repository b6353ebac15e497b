-- A table of the rows of a head, under the key of the values that they share, is lawful.
use Rattle.std.proofs.Common.{◌≡◌, ℕ, Bool, true, false, T, List, [], ◌∷◌, map, refl, ap, ◌∙◌}
use Rattle.std.specs.Prelude.{◌&&◌, Some, filter_map}
use Rattle.std.specs.declared.cmp.Ordering.{Ordering}
use Rattle.std.specs.declared.cmp.Ordering.TheVariants.{Less, Equal, Greater}
use Rattle.std.specs.Ordering.{is_lt, eq_by_cmp, ordering_reverse}
use Rattle.std.specs.Cmp.Lexicographic.{nat_list_cmp_total}
use Rattle.std.specs.List.{AllByRecursion}
use Rattle.std.specs.List.Sorted.{IsStrictlySortedBy}
use Rattle.std.specs.Option.{option_map}
use Rattle.std.specs.FinMap as fin
use Rattle.std.specs.FinMap.{FinMap}
use Rattle.std.specs.FinMap.Entries.{find, is_sorted, below_all}
use Rattle.fx_base.specs.Text.{text_cmp}
use Rattle.fx_value.specs.declared.scalar.Scalar.{Scalar}
use Rattle.fx_value.specs.declared.source.Source.{Source}
use Rattle.fx_value.specs.declared.source.Source.TheVariants.{Fixed, First, Second}
use Rattle.fx_value.specs.Row.{row_of, shared_cell}
use Rattle.fx_value.specs.Source.{value_at}
use Rattle.fx_value.proofs.Rows.{get-row_of}
use Rattle.fx_data.specs.Shared.{column_entry, key_of}
use Rattle.fx_data.specs.Table.{HasKey, IsLawfulTable}
use Rattle.fx_data.proofs.Sorted.{keys_rise}

-- the labels of the shared cells rise, as those of all cells do
below_shared : (x : List ℕ) (es : List (List ℕ × Source)) → AllByRecursion (λ y. text_cmp x y ≡ Less) (map (λ e. e.0) es)
    → AllByRecursion (λ y. text_cmp x y ≡ Less) (map (λ e. e.label) (map column_entry (filter_map shared_cell es)))
below_shared x [] h = tt
below_shared x ((label, Fixed value) ∷ es) h = (h.0, below_shared x es h.1)
below_shared x ((label, First) ∷ es) h = below_shared x es h.1
below_shared x ((label, Second) ∷ es) h = below_shared x es h.1

rising_shared : (es : List (List ℕ × Source)) → IsStrictlySortedBy text_cmp (map (λ e. e.0) es)
    → IsStrictlySortedBy text_cmp (map (λ e. e.label) (map column_entry (filter_map shared_cell es)))
unfolding IsStrictlySortedBy
rising_shared [] h = tt
rising_shared ((label, Fixed value) ∷ es) h = (below_shared label es h.0, rising_shared es h.1)
rising_shared ((label, First) ∷ es) h = rising_shared es h.1
rising_shared ((label, Second) ∷ es) h = rising_shared es h.1

-- each cell is found under its label
still_found : (e : List ℕ × Source) (ds es : List (List ℕ × Source)) → AllByRecursion (λ y. text_cmp e.0 y ≡ Less) (map (λ d. d.0) ds)
    → AllByRecursion (λ d. find text_cmp d.0 es ≡ Some d.1) ds → AllByRecursion (λ d. find text_cmp d.0 (e ∷ es) ≡ Some d.1) ds
still_found e [] es below h = tt
still_found e (d ∷ ds) es below h =
    let lt : text_cmp e.0 d.0 ≡ Less = below.0 in
    let other : eq_by_cmp text_cmp d.0 e.0 ≡ false = rw (nat_list_cmp_total.antisymm d.0 e.0, lt) refl in
    (rw other h.0, still_found e ds es below.1 h.1)

tied : (o : Ordering) → o ≡ ordering_reverse o → o ≡ Equal
tied Less h = cc
tied Equal h = refl
tied Greater h = cc

same_tie : (x : List ℕ) → eq_by_cmp text_cmp x x ≡ true
same_tie x = rw (tied (text_cmp x x) (nat_list_cmp_total.antisymm x x)) refl

all_found : (es : List (List ℕ × Source)) → IsStrictlySortedBy text_cmp (map (λ e. e.0) es) → AllByRecursion (λ d. find text_cmp d.0 es ≡ Some d.1) es
unfolding IsStrictlySortedBy
all_found [] h = tt
all_found (e ∷ es) h = (rw (same_tie e.0) refl, still_found e es es h.0 (all_found es h.1))

labels_rise : (head : FinMap text_cmp Source) → IsStrictlySortedBy text_cmp (map (λ e. e.0) (fin.entries head))
labels_rise head = keys_rise text_cmp (fin.entries head) (fin.entries_sorted head)

-- a row of the head has the shared values
has_shared : (head : FinMap text_cmp Source) (a b : Scalar) (es : List (List ℕ × Source)) → AllByRecursion (λ d. fin.get head d.0 ≡ Some d.1) es → HasKey (map column_entry (filter_map shared_cell es)) (row_of head a b)
has_shared head a b [] h = tt
has_shared head a b ((label, Fixed value) ∷ es) h = (get-row_of a b head label ∙ ap (option_map (value_at a b)) h.0, has_shared head a b es h.1)
has_shared head a b ((label, First) ∷ es) h = has_shared head a b es h.1
has_shared head a b ((label, Second) ∷ es) h = has_shared head a b es h.1

get_found : (head : FinMap text_cmp Source) (es : List (List ℕ × Source)) → AllByRecursion (λ d. find text_cmp d.0 (fin.entries head) ≡ Some d.1) es → AllByRecursion (λ d. fin.get head d.0 ≡ Some d.1) es
get_found head [] h = tt
get_found head (e ∷ es) h = (fin.get-entries head e.0 ∙ h.0, get_found head es h.1)

rows_have : {V : Type 0} (head : FinMap text_cmp Source) (first second : V → Scalar) (own : List V) → AllByRecursion (HasKey (key_of head).entries) (map (λ v. row_of head (first v) (second v)) own)
rows_have head first second [] = tt
rows_have head first second (v ∷ own) = (has_shared head (first v) (second v) (fin.entries head) (get_found head (fin.entries head) (all_found (fin.entries head) (labels_rise head))), rows_have head first second own)

-- rows of a head, each with two values of its own, are a lawful table under the key of what they share
pub shared_is_lawful : {V : Type 0} (head : FinMap text_cmp Source) (first second : V → Scalar) (own : List V) → IsLawfulTable (record { key = key_of head; rows = map (λ v. row_of head (first v) (second v)) own })
shared_is_lawful head first second own = record {
  rising = rising_shared (fin.entries head) (labels_rise head);
  columns = rows_have head first second own;
}
