-- When pivots are not Stuck.
use Rattle.std.proofs.Common.{◌≡◌, ◌≢◌, ℕ, true, false, List, [], ◌∷◌, ◌++◌, map, length, refl, sym, subst, ◌∙◌, arith}
use Rattle.std.specs.Prelude.{cond, if◌then◌else◌}
use Rattle.std.specs.FinMap as fin
use Rattle.std.specs.FinMap.Entries.{put, by_order}
use Rattle.std.specs.List.{AllByRecursion, filter, flat_map}
use Rattle.std.specs.Ordering.{eq_by_cmp}
use Rattle.std.specs.declared.cmp.Ordering.TheVariants.{Less, Equal, Greater}
use Rattle.fx_base.specs.declared.fault.FaultKind.TheVariants.{PivotName}
use Rattle.fx_base.specs.declared.place.Place.{Place}
use Rattle.fx_data.specs.Gathered.{rows_with, grouped, gathered, table_of}
use Rattle.fx_data.specs.Key.{key_cmp}
use Rattle.fx_data.specs.Regrouped.{regrouped}
use Rattle.fx_data.specs.declared.key.Key.{Key}
use Rattle.fx_data.specs.declared.table.Table.{Table}
use Rattle.fx_data.proofs.Keys.{key_cmp_total}
use Rattle.fx_data.proofs.Lawful.{all-append}
use Rattle.fx_group.specs.Answer.{Row}
use Rattle.fx_group.proofs.Unstuck.{EachRow, each_of}
use Rattle.fx_value.specs.Ends.{End, Gives, Faults, Stuck, More, later, and_then}
use Rattle.fx_value.specs.Works.{flat_each}
use Rattle.fx_pivot.specs.Cells.{name_of, is_refused, cell_under, cell_of, cells_of}
use Rattle.fx_pivot.specs.Pivot.{are_apart, based, collected, pivot_key, keyed, pivot_rows, pivoted_table, pivoted_tables, pivoted}
use Rattle.fx_pivot.specs.declared.cell.Cell.{Cell}

later_unstuck : {A : Type 0} (before : ℕ) (e : End A) → e ≢ Stuck → later before e ≢ Stuck
later_unstuck before (Gives v t) unstuck = λ is. cc
later_unstuck before (Faults f t) unstuck = λ is. cc
later_unstuck before Stuck unstuck = unstuck
later_unstuck before More unstuck = λ is. cc

then_unstuck : {A B : Type 0} (e : End A) (next : A → End B) → e ≢ Stuck → ((v : A) → next v ≢ Stuck) → and_then e next ≢ Stuck
then_unstuck (Gives v t) next unstuck after = later_unstuck t (next v) (after v)
then_unstuck (Faults f t) next unstuck after = λ is. cc
then_unstuck Stuck next unstuck after = λ _. unstuck refl
then_unstuck More next unstuck after = λ is. cc

gives_unstuck : {A : Type 0} (v : A) → Gives v 0 ≢ Stuck
gives_unstuck v = λ is. cc

each_unstuck : {X Y : Type 0} (step : X → End (List Y)) (xs : List X) → AllByRecursion (λ x. step x ≢ Stuck) xs → flat_each step xs ≢ Stuck
each_unstuck step [] unstuck = gives_unstuck []
each_unstuck step (x ∷ xs) unstuck =
    then_unstuck (step x) (λ ys. and_then (flat_each step xs) (λ zs. Gives (ys ++ zs) 0)) unstuck.0
    (λ ys. then_unstuck (flat_each step xs) (λ zs. Gives (ys ++ zs) 0) (each_unstuck step xs unstuck.1) (λ zs. gives_unstuck (ys ++ zs)))

-- ---- rows of collected tables are rows of the tables

abbrev Filed : Type 0
Filed = Key × List Row

module _ (P : Row → Type 0) where
  abbrev Has : Filed → Type 0
  Has e = AllByRecursion P e.1

  with_all : (key : Key) (ts : List Table) → EachRow P ts → AllByRecursion P (rows_with key ts)
  with_all key [] h = tt
  with_all key (t ∷ ts) h =
      elim (eq_by_cmp key_cmp key t.key) as (λ b. AllByRecursion P (flat_map (λ (u : Table). u.rows) (cond b (t ∷ filter (λ u. eq_by_cmp key_cmp key u.key) ts) (filter (λ u. eq_by_cmp key_cmp key u.key) ts)))) [
        | true ↦ all-append P t.rows (rows_with key ts) h.0 (with_all key ts h.1)
        | false ↦ with_all key ts h.1
      ]

  all-pairs : (ts us : List Table) → EachRow P ts → AllByRecursion Has (map (λ u. (u.key, rows_with u.key ts)) us)
  all-pairs ts [] h = tt
  all-pairs ts (u ∷ us) h = (with_all u.key ts h, all-pairs ts us h)

  all-put : (k : Key) (v : List Row) (es : List Filed) → AllByRecursion P v → AllByRecursion Has es → AllByRecursion Has (put key_cmp k v es)
  all-put k v [] g h = (g, tt)
  all-put k v (e ∷ es) g h =
      elim (key_cmp k e.0) as (λ o. AllByRecursion Has (by_order o ((k, v) ∷ e ∷ es) ((e.0, v) ∷ es) (e ∷ put key_cmp k v es))) [
        | Less ↦ (g, h)
        | Equal ↦ (g, h.1)
        | Greater ↦ (h.0, all-put k v es g h.1)
      ]

  none_of : (es : List Filed) → length es ≡ 0 → AllByRecursion Has es
  none_of [] n = tt
  none_of (e ∷ es) n = absurd (omega arith)

  all-from : (es : List Filed) → AllByRecursion Has es → AllByRecursion Has (fin.entries (fin.from_entries {R = key_cmp} es))
  all-from [] h = none_of _ (sym (fin.len-entries _) ∙ fin.len-empty key_cmp (List Row))
  all-from (e ∷ es) h = subst (AllByRecursion Has) (sym (fin.entries-insert key_cmp_total (fin.from_entries es) e.0 e.1)) (all-put e.0 e.1 _ h.0 (all-from es h.1))

  as_tables : (es : List Filed) → AllByRecursion Has es → EachRow P (map table_of es)
  as_tables [] h = tt
  as_tables (e ∷ es) h = (h.0, as_tables es h.1)

  gathered_rows : (ts : List Table) → EachRow P ts → EachRow P (gathered ts)
  unfolding gathered grouped
  gathered_rows ts h = as_tables _ (all-from _ (all-pairs ts ts h))

  based_rows : (taken : List (List ℕ)) (ts : List Table) → EachRow P ts → EachRow P (map (based taken) ts)
  based_rows taken [] h = tt
  based_rows taken (t ∷ ts) h = (h.0, based_rows taken ts h.1)

-- ---- `pivot`

-- each value of the row under the column key is a text, null, or not there
abbrev pub HasName : List (List ℕ) → Row → Type 0
HasName columns row = name_of columns row ≢ Stuck

module _ (place : Place) (rows columns : List (List ℕ)) (value : List ℕ) where
  cell_unstuck : (key : Key) (row : Row) → HasName columns row → cell_of place rows columns value key row ≢ Stuck
  cell_unstuck key row named =
      then_unstuck (name_of columns row)
      (λ name. if is_refused rows key name then Faults (record { kind = PivotName; place = place }) 0 else Gives (cell_under rows value row name) 0) named
      (λ name. elim (is_refused rows key name) as (λ b. ◌≢◌ {A = End Cell} (if b then Faults (record { kind = PivotName; place = place }) 0 else Gives (cell_under rows value row name) 0) Stuck) [
        | true ↦ λ is. cc
        | false ↦ λ is. cc
      ])

  table_unstuck : (t : Table) → AllByRecursion (HasName columns) t.rows → pivoted_table place rows columns value t ≢ Stuck
  table_unstuck t named =
      then_unstuck (cells_of place rows columns value t.key t.rows) (λ cells. Gives (map (keyed (pivot_key rows t.key)) (pivot_rows rows cells)) 0)
      (each_unstuck (λ row. and_then (cell_of place rows columns value t.key row) (λ cell. Gives (cell ∷ []) 0)) t.rows
      (each_of (HasName columns) (λ row. and_then (cell_of place rows columns value t.key row) (λ cell. Gives (cell ∷ []) 0) ≢ Stuck)
      (λ row h. then_unstuck (cell_of place rows columns value t.key row) (λ cell. Gives (cell ∷ []) 0) (cell_unstuck t.key row h) (λ cell. gives_unstuck (cell ∷ []))) t.rows named))
      (λ cells. gives_unstuck (map (keyed (pivot_key rows t.key)) (pivot_rows rows cells)))

  -- a pivot is not Stuck where no label stands in two of its words, and the values under the column key are texts, null or not there
  pub pivot_never_stuck : (tables : List Table) → are_apart rows columns value ≡ true → EachRow (HasName columns) tables → pivoted place rows columns value tables ≢ Stuck
  unfolding pivoted
  pivot_never_stuck tables apart named =
      let work : End (List Table) = and_then (pivoted_tables place rows columns value (collected (value ∷ columns) tables)) (λ made. Gives (regrouped made) 0) in
      let unstuck : work ≢ Stuck
      = then_unstuck (pivoted_tables place rows columns value (collected (value ∷ columns) tables)) (λ made. Gives (regrouped made) 0)
      (each_unstuck (pivoted_table place rows columns value) (collected (value ∷ columns) tables)
      (each_of (λ t. AllByRecursion (HasName columns) t.rows) (λ t. pivoted_table place rows columns value t ≢ Stuck) table_unstuck (collected (value ∷ columns) tables)
      (gathered_rows (HasName columns) (map (based (value ∷ columns)) tables) (based_rows (HasName columns) (value ∷ columns) tables named))))
      (λ made. gives_unstuck (regrouped made)) in
      subst (λ b. ◌≢◌ {A = End (List Table)} (if b then work else Stuck) Stuck) (sym apart) unstuck
