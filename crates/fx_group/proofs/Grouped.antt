-- Keys of picked columns.
use Rattle.std.proofs.Common.{◌≡◌, ℕ, Bool, true, false, List, [], ◌∷◌, ◌++◌, map, filter_map, refl, sym, ap, subst, ◌∙◌}
use Rattle.std.proofs.lemmas.List.{map-append}
use Rattle.std.proofs.lemmas.List.Kept.{IsStrictlySortedBy-filter}
use Rattle.std.specs.Prelude.{cond, Some}
use Rattle.std.specs.declared.cmp.Ordering.TheVariants.{Less}
use Rattle.std.specs.Ordering.{is_eq, eq_by_cmp}
use Rattle.std.specs.Cmp.{eq_by_cmp_equiv}
use Rattle.std.specs.Cmp.Lexicographic.{nat_list_cmp_total}
use Rattle.std.specs.List.{AllByRecursion, filter, flat_map, cons_option}
use Rattle.std.specs.List.Sorted.{IsStrictlySortedBy}
use Rattle.std.specs.FinMap as fin
use Rattle.std.specs.FinMap.Entries.{find}
use Rattle.fx_base.specs.Text.{text_cmp}
use Rattle.fx_value.specs.declared.scalar.Scalar.{Scalar}
use Rattle.fx_data.specs.declared.key.Key.{Key}
use Rattle.fx_data.specs.declared.table.Table.{Table}
use Rattle.fx_data.specs.Gathered.{grouped, gathered, table_of}
use Rattle.fx_data.specs.Regrouped.{entry_after, after, new_key, alone, all_joined}
use Rattle.fx_data.specs.Shared.{column_entry}
use Rattle.fx_data.specs.Table.{HasRisingLabels}
use Rattle.fx_data.proofs.Sorted.{keys_rise}
use Rattle.fx_group.specs.Answer.{Row}
use Rattle.fx_group.specs.Group.{picked_key, picked_table, regrouped_by}
use Rattle.fx_group.specs.Turned.{Groups}
use Rattle.fx_group.specs.Wanted.{wanted_entry, wanted_key}
use Rattle.fx_group.proofs.Turned.{joined_both}

abbrev Cell : Type 0
Cell = List ℕ × Scalar

labels_wanted : (labels : List (List ℕ)) → map (λ e. e.label) (map wanted_entry labels) ≡ labels
labels_wanted [] = refl
labels_wanted (l ∷ labels) = ap (λ ls. l ∷ ls) (labels_wanted labels)

row_rises : (row : Row) → IsStrictlySortedBy text_cmp (fin.keys row)
row_rises row = keys_rise text_cmp (fin.entries row) (fin.entries_sorted row)

-- the labels that are picked rise
pub wanted_rises : (picked : List ℕ → Bool) (row : Row) → HasRisingLabels (wanted_key picked row)
wanted_rises picked row =
    subst (IsStrictlySortedBy text_cmp) (sym (labels_wanted (filter picked (fin.keys row))))
    (IsStrictlySortedBy-filter text_cmp picked (fin.keys row) (row_rises row))

-- what is found in cells is found behind one with a lower label
found_behind : (e : Cell) (all cells : List Cell) → AllByRecursion (λ l. text_cmp e.0 l ≡ Less) (map (λ d. d.0) cells)
    → AllByRecursion (λ d. find text_cmp d.0 all ≡ Some d.1) cells → AllByRecursion (λ d. find text_cmp d.0 (e ∷ all) ≡ Some d.1) cells
found_behind e all [] above h = tt
found_behind e all (d ∷ cells) above h =
    let apart : eq_by_cmp text_cmp d.0 e.0 ≡ false = (eq_by_cmp_equiv nat_list_cmp_total).symm d.0 e.0 ∙ ap is_eq above.0 in
    (ap (λ b. cond b (Some e.1) (find text_cmp d.0 all)) apart ∙ h.0, found_behind e all cells above.1 h.1)

-- each cell is found among cells whose labels rise
all_found : (cells : List Cell) → IsStrictlySortedBy text_cmp (map (λ d. d.0) cells) → AllByRecursion (λ d. find text_cmp d.0 cells ≡ Some d.1) cells
unfolding IsStrictlySortedBy
all_found [] rising = tt
all_found (e ∷ cells) rising = (
  ap (λ b. cond b (Some e.1) (find text_cmp e.0 cells)) ((eq_by_cmp_equiv nat_list_cmp_total).refl e.0),
  found_behind e cells cells rising.0 (all_found cells rising.1),
)

-- what a row has at the picked ones of some cells that are its own
picked_after : (picked : List ℕ → Bool) (row : Row) (cells : List Cell) → AllByRecursion (λ d. find text_cmp d.0 (fin.entries row) ≡ Some d.1) cells
    → filter_map (after row) (map wanted_entry (filter picked (map (λ d. d.0) cells))) ≡ map column_entry (filter (λ d. picked d.0) cells)
picked_after picked row [] h = refl
picked_after picked row (d ∷ cells) h =
    let has : fin.get row d.0 ≡ Some d.1 = fin.get-entries row d.0 ∙ h.0 in
    elim (picked d.0) as (λ b. filter_map (after row) (map wanted_entry (cond b (d.0 ∷ filter picked (map (λ x. x.0) cells)) (filter picked (map (λ x. x.0) cells))))
    ≡ map column_entry (cond b (d ∷ filter (λ x. picked x.0) cells) (filter (λ x. picked x.0) cells))) [
      | true ↦ ap (λ o. cons_option (entry_after (wanted_entry d.0) o) (filter_map (after row) (map wanted_entry (filter picked (map (λ x. x.0) cells))))) has
          ∙ ap (λ es. column_entry d ∷ es) (picked_after picked row cells h.1)
      | false ↦ picked_after picked row cells h.1
    ]

-- the new key of a row, where the old one has its picked labels, is that of its picked columns
pub wanted_new : (picked : List ℕ → Bool) (pattern row : Row) (key : Key) → fin.keys pattern ≡ fin.keys row → key ≡ wanted_key picked pattern
    → alone (record { key = key; row = row }) ≡ picked_table picked row
unfolding new_key
wanted_new picked pattern row key same is =
    let entries : filter_map (after row) key.entries ≡ (picked_key picked row).entries
    = ap (λ (k : Key). filter_map (after row) k.entries) is
    ∙ ap (λ labels. filter_map (after row) (map wanted_entry (filter picked labels))) same
    ∙ picked_after picked row (fin.entries row) (all_found (fin.entries row) (row_rises row)) in
    λ i. record { key = record { entries = entries i }; rows = row ∷ [] }

-- rows of two parts, one after the other
pub joined_rows : (each : Row → Table) (groups : Groups) (rows more : List Row)
    → all_joined groups (map each (rows ++ more)) ≡ all_joined (all_joined groups (map each rows)) (map each more)
joined_rows each groups rows more = ap (all_joined groups) (map-append each rows more) ∙ joined_both groups (map each rows) (map each more)

-- runs of rows under the keys of their picked columns, as tables
pub regrouped_is : (picked : List ℕ → Bool) (tables : List Table) (runs : Groups) → runs ≡ grouped (map (picked_table picked) (flat_map (λ t. t.rows) tables))
    → map table_of (fin.entries runs) ≡ regrouped_by picked tables
unfolding gathered regrouped_by
regrouped_is picked tables runs is = ap (λ (groups : Groups). map table_of (fin.entries groups)) is
