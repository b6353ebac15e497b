-- A range of tables whose times are times is what the code makes of them.
use Rattle.std.proofs.Common.{◌≡◌, ◌≢◌, ℤ, Bool, true, false, List, [], ◌∷◌, ◌++◌, map, refl, sym, ap, ◌∙◌}
use Rattle.std.specs.Prelude.{Option, None, Some, cond, if◌then◌else◌, codes}
use Rattle.std.specs.FinMap.{FinMap, get, insert, entries}
use Rattle.std.specs.List.{filter, flat_map, AllByRecursion}
use Rattle.fx_value.specs.Change.{all_changed}
use Rattle.fx_value.specs.declared.change.Change.{Change}
use Rattle.fx_value.specs.declared.change.Change.TheVariants.{Set}
use Rattle.fx_value.specs.declared.scalar.Scalar.{Scalar}
use Rattle.fx_value.specs.declared.scalar.Scalar.TheVariants as scalar
use Rattle.fx_value.specs.Ends.{End, Gives, Stuck, and_then}
use Rattle.fx_value.specs.Works.{flat_each}
use Rattle.fx_value.proofs.Loops.{told_then, told_unstuck}
use Rattle.fx_data.specs.Columns.{key_with, with_column}
use Rattle.fx_data.specs.Gathered.{grouped, gathered, table_of}
use Rattle.fx_data.specs.Key.{key_cmp}
use Rattle.fx_data.specs.Table.{IsLawfulTable}
use Rattle.fx_data.proofs.Columns.{column_lawful}
use Rattle.fx_data.specs.declared.key.Key.{Key}
use Rattle.fx_data.specs.declared.table.Table.{Table}
use Rattle.fx_group.specs.Answer.{Row}
use Rattle.fx_group.specs.Bounds.{is_time_between, lies_between, table_left}
use Rattle.fx_group.specs.Range.{is_between, row_between, bounded, left_of, ranged_table, ranged}

-- steps that give plain lists where they aren't Stuck, one after another
each_plain : {X Y : Type 0} (step : X → End (List Y)) (plain : X → List Y) → ((x : X) → step x ≢ Stuck → step x ≡ Gives (plain x) 0)
    → (xs : List X) → flat_each step xs ≢ Stuck → flat_each step xs ≡ Gives (flat_map plain xs) 0
each_plain step plain one [] unstuck = refl
each_plain {X} {Y} step plain one (x ∷ xs) unstuck =
    let rest : List Y → End (List Y) = λ ys. and_then (flat_each step xs) (λ zs. Gives (ys ++ zs) 0) in
    let here : step x ≡ Gives (plain x) 0 = one x (told_unstuck (step x) rest unstuck) in
    let after : and_then (step x) rest ≡ rest (plain x) = told_then (step x) rest (plain x) here in
    let left : flat_each step xs ≢ Stuck = told_unstuck (flat_each step xs) (λ zs. Gives (plain x ++ zs) 0) (λ stuck. unstuck (after ∙ stuck)) in
    after ∙ told_then (flat_each step xs) (λ zs. Gives (plain x ++ zs) 0) (flat_map plain xs) (each_plain step plain one xs left)

module _ (start stop : ℤ) where
  between_plain : (value : Option Scalar) → is_between start stop value ≢ Stuck → is_between start stop value ≡ Gives (is_time_between start stop value) 0
  between_plain None unstuck = refl
  between_plain (Some scalar.Null) unstuck = refl
  between_plain (Some (scalar.Time t)) unstuck = refl
  between_plain (Some (scalar.Bool b)) unstuck = absurd (unstuck refl)
  between_plain (Some (scalar.Int n)) unstuck = absurd (unstuck refl)
  between_plain (Some (scalar.Text t)) unstuck = absurd (unstuck refl)

  row_plain : (row : Row) → row_between start stop row ≢ Stuck → row_between start stop row ≡ Gives (if lies_between start stop row then row ∷ [] else []) 0
  row_plain row unstuck =
      let value = get row (codes "_time") in
      let kept : Bool → End (List Row) = λ between. Gives (if between then row ∷ [] else []) 0 in
      told_then (is_between start stop value) kept (is_time_between start stop value)
      (between_plain value (told_unstuck (is_between start stop value) kept unstuck))

  filter_each : (rows : List Row) → flat_map (λ row. if lies_between start stop row then row ∷ [] else []) rows ≡ filter (lies_between start stop) rows
  filter_each [] = refl
  filter_each (row ∷ rows) =
      elim (lies_between start stop row) as (λ b. (if b then row ∷ [] else []) ++ flat_map (λ r. if lies_between start stop r then r ∷ [] else []) rows
      ≡ cond b (row ∷ filter (lies_between start stop) rows) (filter (lies_between start stop) rows)) [
        | true ↦ ap (λ rs. row ∷ rs) (filter_each rows)
        | false ↦ filter_each rows
      ]

  table_plain : (t : Table) → ranged_table start stop t ≢ Stuck → ranged_table start stop t ≡ Gives (table_left start stop t) 0
  table_plain t unstuck =
      let made : List Row → End (List Table) = λ rows. Gives (map (bounded start stop) (left_of t.key t.rows rows)) 0 in
      let rows : List Row → List Row = flat_map (λ row. if lies_between start stop row then row ∷ [] else []) in
      told_then (flat_each (row_between start stop) t.rows) made (rows t.rows)
      (each_plain (row_between start stop) (λ row. if lies_between start stop row then row ∷ [] else []) row_plain t.rows
      (told_unstuck (flat_each (row_between start stop) t.rows) made unstuck))
      ∙ ap made (filter_each t.rows)

  -- a range that isn't Stuck is what is left of each table, gathered
  pub ranged_plain : (tables : List Table) → ranged start stop tables ≢ Stuck → ranged start stop tables ≡ Gives (gathered (flat_map (table_left start stop) tables)) 0
  unfolding ranged
  ranged_plain tables unstuck =
      let made : List Table → End (List Table) = λ ts. Gives (gathered ts) 0 in
      told_then (flat_each (ranged_table start stop) tables) made (flat_map (table_left start stop) tables)
      (each_plain (ranged_table start stop) (table_left start stop) table_plain tables
      (told_unstuck (flat_each (ranged_table start stop) tables) made unstuck))

  -- ---- one table

  abbrev both_set : List Change
  both_set = Set (codes "_start") (scalar.Time start) ∷ Set (codes "_stop") (scalar.Time stop) ∷ []

  both_changed : (rows : List Row) → map (all_changed both_set) rows ≡ map (λ row. insert row (codes "_stop") (scalar.Time stop)) (map (λ row. insert row (codes "_start") (scalar.Time start)) rows)
  both_changed [] = refl
  both_changed (row ∷ rows) = ap (λ rs. all_changed both_set row ∷ rs) (both_changed rows)

  -- a key and rows that were changed so are the table with its bounds
  pub bounded_is : (t : Table) (key : Key) (rows : List Row) → key ≡ key_with (key_with t.key (codes "_start") (scalar.Time start)) (codes "_stop") (scalar.Time stop)
      → rows ≡ map (all_changed both_set) t.rows → ◌≡◌ {A = Table} (record { key = key; rows = rows }) (bounded start stop t)
  bounded_is t key rows same changed = λ i. record { key = same i; rows = (changed ∙ both_changed t.rows) i }

  pub bounded_lawful : (t : Table) → IsLawfulTable t → IsLawfulTable (bounded start stop t)
  bounded_lawful t lawful =
      column_lawful (codes "_stop") (scalar.Time stop) (with_column (codes "_start") (scalar.Time start) t)
      (column_lawful (codes "_start") (scalar.Time start) t lawful)

  -- ---- the call

  -- runs of what is left of the tables give the range as tables
  pub range_is : (first last : ℤ) → first ≡ start → last ≡ stop → (tables : List Table) → ranged start stop tables ≢ Stuck
      → (runs : FinMap key_cmp (List Row)) (t : List Table) → runs ≡ grouped (flat_map (table_left first last) tables) → t ≡ map table_of (entries runs)
      → ranged start stop tables ≡ Gives t 0
  unfolding gathered
  range_is first last low high tables unstuck runs t left is =
      ranged_plain tables unstuck
      ∙ (λ i. Gives (gathered (flat_map (table_left (sym low i) (sym high i)) tables)) 0)
      ∙ ap (λ (groups : FinMap key_cmp (List Row)). Gives (map table_of (entries groups)) 0) (sym left)
      ∙ ap (λ (ts : List Table). Gives ts 0) (sym is)

-- what holds of all rows holds of those that pass a test
pub filter_all : (P : Row → Type 0) (test : Row → Bool) (rows : List Row) → AllByRecursion P rows → AllByRecursion P (filter test rows)
filter_all P test [] h = tt
filter_all P test (row ∷ rows) h =
    elim (test row) as (λ b. AllByRecursion P (cond b (row ∷ filter test rows) (filter test rows))) [
      | true ↦ (h.0, filter_all P test rows h.1)
      | false ↦ filter_all P test rows h.1
    ]
