-- A pivot is what its tables make, regrouped; and the keys that it makes.
use Rattle.std.proofs.Common.{◌≡◌, ◌≢◌, ℕ, Bool, true, false, List, [], ◌∷◌, ◌++◌, map, refl, sym, ap, subst, ◌∙◌}
use Rattle.std.specs.FinMap as fin
use Rattle.std.specs.Prelude.{Err, cond, if◌then◌else◌, codes}
use Rattle.std.specs.List.{AllByRecursion, filter, join_by}
use Rattle.std.specs.declared.cmp.Ordering.TheVariants.{Less}
use Rattle.std.specs.List.Sorted.{IsStrictlySortedBy}
use Rattle.std.proofs.lemmas.List.{append-nil}
use Rattle.fx_pivot.proofs.Gathers.{made_listed}
use Rattle.fx_base.specs.declared.halt.Halt.{Halt}
use Rattle.fx_base.specs.declared.place.Place.{Place}
use Rattle.fx_base.specs.Text.{text_cmp}
use Rattle.fx_data.specs.Gathered.{table_of}
use Rattle.fx_data.specs.Regrouped.{regrouped}
use Rattle.fx_data.specs.Table.{shown, HasKey, HasRisingLabels, IsLawfulTable}
use Rattle.fx_data.specs.declared.key.Key.{Key}
use Rattle.fx_data.specs.declared.key.KeyEntry.{KeyEntry}
use Rattle.fx_data.specs.declared.keyed_row.KeyedRow.{KeyedRow}
use Rattle.fx_data.specs.declared.table.Table.{Table}
use Rattle.fx_group.specs.Answer.{Row}
use Rattle.fx_group.specs.Turned.{Groups, with_rows}
use Rattle.fx_group.proofs.Turned.{listed}
use Rattle.fx_value.specs.Calls.{Told}
use Rattle.fx_value.specs.Ends.{End, Gives, Stuck, and_then}
use Rattle.fx_value.specs.Works.{flat_each, into}
use Rattle.fx_value.proofs.Loops.{told_then, told_stops, told_unstuck}
use Rattle.fx_pivot.specs.Cells.{text_of, name_of, cells_of}
use Rattle.fx_pivot.specs.Pivot.{are_apart, stays, based, collected, pinned_but, pivot_key, keyed, pivot_rows, pivoted_table, pivoted_tables, pivoted}
use Rattle.fx_pivot.specs.declared.cell.Cell.{Cell}

-- ---- names of one text

named_end : End (List ℕ) → End (List ℕ)
named_end end =
    and_then (and_then (and_then end (λ text. Gives (text ∷ []) 0)) (λ ys. and_then (Gives [] 0) (λ zs. Gives (ys ++ zs) 0)))
    (λ texts. Gives (join_by (λ text. text) (codes "_") texts) 0)

pub one_name : (label : List ℕ) (columns : List (List ℕ)) (row : Row) (text : List ℕ) → columns ≡ label ∷ [] → text_of (fin.get row label) ≡ Gives text 0 → name_of columns row ≡ Gives text 0
unfolding named_end
one_name label columns row text is gives =
    ap (λ labels. name_of labels row) is ∙ ap named_end gives ∙ ap (λ (t : List ℕ). Gives t 0) (append-nil text)

pub one_unstuck : (label : List ℕ) (columns : List (List ℕ)) (row : Row) → columns ≡ label ∷ [] → name_of columns row ≢ Stuck → text_of (fin.get row label) ≢ Stuck
unfolding named_end
one_unstuck label columns row is unstuck = λ stuck. unstuck (ap (λ labels. name_of labels row) is ∙ ap named_end stuck)

-- ---- keys

filter_all : {X : Type 0} (P : X → Type 0) (p : X → Bool) (xs : List X) → AllByRecursion P xs → AllByRecursion P (filter p xs)
filter_all P p [] h = tt
filter_all P p (x ∷ xs) h = elim (p x) as (λ b. AllByRecursion P (cond b (x ∷ filter p xs) (filter p xs))) [ true ↦ (h.0, filter_all P p xs h.1) | false ↦ filter_all P p xs h.1 ]

above_kept : (l : List ℕ) (p : KeyEntry → Bool) (es : List KeyEntry) → AllByRecursion (λ m. text_cmp l m ≡ Less) (map (λ e. e.label) es)
    → AllByRecursion (λ m. text_cmp l m ≡ Less) (map (λ e. e.label) (filter p es))
above_kept l p [] h = tt
above_kept l p (e ∷ es) h =
    elim (p e) as (λ b. AllByRecursion (λ m. text_cmp l m ≡ Less) (map (λ (d : KeyEntry). d.label) (cond b (e ∷ filter p es) (filter p es)))) [
      | true ↦ (h.0, above_kept l p es h.1)
      | false ↦ above_kept l p es h.1
    ]

rises_kept : (p : KeyEntry → Bool) (es : List KeyEntry) → IsStrictlySortedBy text_cmp (map (λ e. e.label) es) → IsStrictlySortedBy text_cmp (map (λ e. e.label) (filter p es))
unfolding IsStrictlySortedBy
rises_kept p [] h = tt
rises_kept p (e ∷ es) h =
    elim (p e) as (λ b. IsStrictlySortedBy text_cmp (map (λ (d : KeyEntry). d.label) (cond b (e ∷ filter p es) (filter p es)))) [
      | true ↦ (above_kept e.label p es h.0, rises_kept p es h.1)
      | false ↦ rises_kept p es h.1
    ]

columns_kept : (p : KeyEntry → Bool) (es : List KeyEntry) (rows : List Row) → AllByRecursion (HasKey es) rows → AllByRecursion (HasKey (filter p es)) rows
columns_kept p es [] h = tt
columns_kept p es (row ∷ rows) h = (filter_all (λ e. fin.get row e.label ≡ shown e) p es h.0, columns_kept p es rows h.1)

-- a table under fewer of its entries is lawful
pub based_lawful : (taken : List (List ℕ)) (t : Table) → IsLawfulTable t → IsLawfulTable (based taken t)
based_lawful taken t h = record { rising = rises_kept (stays taken) t.key.entries h.rising; columns = columns_kept (stays taken) t.key.entries t.rows h.columns }

labels_same : (rows : List (List ℕ)) (entries : List KeyEntry) → map (λ e. e.label) (map (pinned_but rows) entries) ≡ map (λ e. e.label) entries
labels_same rows [] = refl
labels_same rows (e ∷ entries) = ap (λ ls. e.label ∷ ls) (labels_same rows entries)

pub pivot_key_rises : (rows : List (List ℕ)) (key : Key) → HasRisingLabels key → HasRisingLabels (pivot_key rows key)
pivot_key_rises rows key rising = subst (IsStrictlySortedBy text_cmp) (sym (labels_same rows key.entries)) rising

-- ---- the rows of a table

module _ (place : Place) (rows columns : List (List ℕ)) (value : List ℕ) (groups : Groups) (t : Table) where
  abbrev made_of : List Cell → List KeyedRow
  made_of cells = map (keyed (pivot_key rows t.key)) (pivot_rows rows cells)

  pub cells_unstuck : pivoted_table place rows columns value t ≢ Stuck → cells_of place rows columns value t.key t.rows ≢ Stuck
  cells_unstuck unstuck = told_unstuck (cells_of place rows columns value t.key t.rows) (λ cells. Gives (made_of cells) 0) unstuck

  pub table_gives : (cells : List Cell) (more : Groups) → cells_of place rows columns value t.key t.rows ≡ Gives cells 0 → more ≡ with_rows groups (made_of cells)
      → into with_rows groups (pivoted_table place rows columns value t) ≡ Gives more 0
  table_gives cells more gives is =
      ap (λ e. into with_rows groups e) (told_then (cells_of place rows columns value t.key t.rows) (λ cs. Gives (made_of cs) 0) cells gives) ∙ ap (λ (g : Groups). Gives g 0) (sym is)

  pub table_stops : (why : Halt) → Told (cells_of place rows columns value t.key t.rows) (Err why) → Told (into with_rows groups (pivoted_table place rows columns value t)) (Err why)
  table_stops why told =
      told_stops (pivoted_table place rows columns value t) (λ made. Gives (with_rows groups made) 0) why
      (told_stops (cells_of place rows columns value t.key t.rows) (λ cs. Gives (made_of cs) 0) why told)

-- ---- `pivot` is this, regrouped

module _ (place : Place) (rows columns : List (List ℕ)) (value : List ℕ) (tables given : List Table) (same : given ≡ collected (value ∷ columns) tables) where
  abbrev made : End (List KeyedRow)
  made = pivoted_tables place rows columns value given

  whole : pivoted place rows columns value tables ≢ Stuck → pivoted place rows columns value tables ≡ and_then made (λ rs. Gives (regrouped rs) 0)
  unfolding pivoted
  whole unstuck =
      let work : End (List Table) = and_then (pivoted_tables place rows columns value (collected (value ∷ columns) tables)) (λ rs. Gives (regrouped rs) 0) in
      elim (are_apart rows columns value) as (λ b. ((if b then work else Stuck) ≢ Stuck) → (if b then work else Stuck) ≡ and_then made (λ rs. Gives (regrouped rs) 0)) [
        | true ↦ λ _. (λ i. and_then (pivoted_tables place rows columns value (sym same i)) (λ rs. Gives (regrouped rs) 0))
        | false ↦ λ h. absurd (h refl)
      ] unstuck

  pub pivot_unstuck : pivoted place rows columns value tables ≢ Stuck → made ≢ Stuck
  pivot_unstuck unstuck = told_unstuck made (λ rs. Gives (regrouped rs) 0) (λ stuck. unstuck (whole unstuck ∙ stuck))

  pub pivot_gives : pivoted place rows columns value tables ≢ Stuck → (groups : Groups) (ts : List Table) → into with_rows fin.empty made ≡ Gives groups 0
      → ts ≡ map table_of (fin.entries groups) → pivoted place rows columns value tables ≡ Gives ts 0
  pivot_gives unstuck groups ts gives is =
      whole unstuck ∙ made_listed made ∙ told_then (into with_rows fin.empty made) (λ g. Gives (listed g) 0) groups gives ∙ ap (λ (us : List Table). Gives us 0) (sym is)

  pub pivot_stops : pivoted place rows columns value tables ≢ Stuck → (why : Halt) → Told (into with_rows fin.empty made) (Err why) → Told (pivoted place rows columns value tables) (Err why)
  pivot_stops unstuck why told =
      subst (λ e. Told e (Err why)) (sym (whole unstuck ∙ made_listed made)) (told_stops (into with_rows fin.empty made) (λ g. Gives (listed g) 0) why told)

-- ---- the cells of rows

module _ {X Y : Type 0} (one : X → End Y) (whole : End (List Y)) (g : List Y) (left : List X)
    (ahead : whole ≡ into ◌++◌ g (flat_each (λ x. and_then (one x) (λ y. Gives (y ∷ []) 0)) left)) (x : X) (xs : List X) (is : left ≡ x ∷ xs) where
  -- an item ended without a value, and so do all
  pub item_stops : (why : Halt) → Told (one x) (Err why) → Told whole (Err why)
  item_stops why told =
      let step : X → End (List Y) = λ z. and_then (one z) (λ y. Gives (y ∷ []) 0) in
      subst (λ e. Told e (Err why)) (sym (ahead ∙ ap (λ items. into ◌++◌ g (flat_each step items)) is))
      (told_stops (flat_each step (x ∷ xs)) (λ all. Gives (g ++ all) 0) why
      (told_stops (step x) (λ ys. and_then (flat_each step xs) (λ zs. Gives (ys ++ zs) 0)) why (told_stops (one x) (λ y. Gives (y ∷ []) 0) why told)))
