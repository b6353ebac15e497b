-- Operators are Stuck under no limit where their row functions take each row.
use Rattle.std.proofs.Common.{◌≢◌, ℕ, ℤ, List, [], ◌∷◌, ◌++◌, map, refl}
use Rattle.std.specs.Prelude.{cond, nat_le, true, false, if◌then◌else◌, codes}
use Rattle.std.specs.FinMap.{get}
use Rattle.std.specs.List.{AllByRecursion}
use Rattle.fx_value.specs.Ends.{End, Gives, Faults, Stuck, More, later, and_then, cut, NeverStuck}
use Rattle.fx_value.specs.Works.{flat_each}
use Rattle.fx_data.specs.Gathered.{gathered}
use Rattle.fx_data.specs.Regrouped.{regrouped}
use Rattle.fx_data.specs.declared.table.Table.{Table}
use Rattle.fx_group.specs.Answer.{Row, Meaning, tested, turned}
use Rattle.fx_group.specs.Filter.{kept_row, kept_rows, kept_table, kept_tables, table_if, filtered}
use Rattle.fx_group.specs.Map.{mapped_row, mapped_table, mapped_tables, mapped}
use Rattle.fx_group.specs.Range.{is_between, row_between, bounded, left_of, ranged_table, ranged}

later_unstuck : {A : Type 0} (before : ℕ) (e : End A) → e ≢ Stuck → later before e ≢ Stuck
later_unstuck before (Gives v t) unstuck = λ is. cc
later_unstuck before (Faults f t) unstuck = λ is. cc
later_unstuck before Stuck unstuck = unstuck
later_unstuck before More unstuck = λ is. cc

then_unstuck : {A B : Type 0} (e : End A) (next : A → End B) → e ≢ Stuck → ((v : A) → next v ≢ Stuck) → and_then e next ≢ Stuck
then_unstuck (Gives v t) next unstuck after = later_unstuck t (next v) (after v)
then_unstuck (Faults f t) next unstuck after = λ is. cc
then_unstuck Stuck next unstuck after = λ _. unstuck refl
then_unstuck More next unstuck after = λ is. cc

gives_unstuck : {A : Type 0} (v : A) → Gives v 0 ≢ Stuck
gives_unstuck v = λ is. cc

each_unstuck : {X Y : Type 0} (step : X → End (List Y)) (xs : List X) → AllByRecursion (λ x. step x ≢ Stuck) xs → flat_each step xs ≢ Stuck
each_unstuck step [] unstuck = gives_unstuck []
each_unstuck step (x ∷ xs) unstuck =
    then_unstuck (step x) (λ ys. and_then (flat_each step xs) (λ zs. Gives (ys ++ zs) 0)) unstuck.0
    (λ ys. then_unstuck (flat_each step xs) (λ zs. Gives (ys ++ zs) 0) (each_unstuck step xs unstuck.1) (λ zs. gives_unstuck (ys ++ zs)))

cut_unstuck : {A : Type 0} (limit : ℕ) (e : End A) → e ≢ Stuck → cut limit e ≢ Stuck
cut_unstuck {A} limit (Gives v t) unstuck =
    elim (nat_le t limit) as (λ b. ◌≢◌ {A = End A} (cond b (Gives v t) More) Stuck) [ true ↦ λ is. cc | false ↦ λ is. cc ]
cut_unstuck {A} limit (Faults f t) unstuck =
    elim (nat_le t limit) as (λ b. ◌≢◌ {A = End A} (cond b (Faults f t) More) Stuck) [ true ↦ λ is. cc | false ↦ λ is. cc ]
cut_unstuck limit Stuck unstuck = unstuck
cut_unstuck limit More unstuck = λ is. cc

-- what holds of each item
pub each_of : {X : Type 0} (P Q : X → Type 0) → ((x : X) → P x → Q x) → (xs : List X) → AllByRecursion P xs → AllByRecursion Q xs
each_of P Q change [] h = tt
each_of P Q change (x ∷ xs) h = (change x h.0, each_of P Q change xs h.1)

every : {X : Type 0} (P : X → Type 0) → ((x : X) → P x) → (xs : List X) → AllByRecursion P xs
every P holds [] = tt
every P holds (x ∷ xs) = (holds x, every P holds xs)

-- each row of the tables has P
abbrev pub EachRow : (Row → Type 0) → List Table → Type 0
EachRow P tables = AllByRecursion (λ t. AllByRecursion P t.rows) tables

-- what holds of all rows holds of each row of the tables
pub every_row : (P : Row → Type 0) → ((row : Row) → P row) → (tables : List Table) → EachRow P tables
every_row P holds [] = tt
every_row P holds (t ∷ tables) = (every P holds t.rows, every_row P holds tables)

module _ (means : Meaning) (limit : ℕ) where
  kept_row_unstuck : (row : Row) → tested means limit row ≢ Stuck → kept_row means limit row ≢ Stuck
  kept_row_unstuck row unstuck =
      then_unstuck (tested means limit row) (λ wanted. Gives (if wanted then row ∷ [] else []) 0) unstuck (λ wanted. gives_unstuck (if wanted then row ∷ [] else []))

  kept_table_unstuck : (t : Table) → AllByRecursion (λ row. tested means limit row ≢ Stuck) t.rows → kept_table means limit t ≢ Stuck
  kept_table_unstuck t unstuck =
      then_unstuck (kept_rows means t.rows limit) (λ rows. Gives (table_if t.key rows) 0)
      (each_unstuck (kept_row means limit) t.rows (each_of (λ row. tested means limit row ≢ Stuck) (λ row. kept_row means limit row ≢ Stuck) kept_row_unstuck t.rows unstuck))
      (λ rows. gives_unstuck (table_if t.key rows))

  mapped_table_unstuck : (t : Table) → AllByRecursion (λ row. turned means limit row ≢ Stuck) t.rows → mapped_table means limit t ≢ Stuck
  mapped_table_unstuck t unstuck =
      each_unstuck (mapped_row means t.key limit) t.rows (each_of (λ row. turned means limit row ≢ Stuck) (λ row. mapped_row means t.key limit row ≢ Stuck)
      (λ row h. then_unstuck (turned means limit row) (λ made. Gives (record { key = t.key; row = made } ∷ []) 0) h (λ made. gives_unstuck (record { key = t.key; row = made } ∷ []))) t.rows unstuck)

module _ (means : Meaning) (tables : List Table) where
  -- `filter` is Stuck under no limit where its function says of each row whether it is wanted
  pub filter_never_stuck : ((limit : ℕ) → EachRow (λ row. tested means limit row ≢ Stuck) tables) → NeverStuck (filtered means tables)
  unfolding filtered
  filter_never_stuck each limit =
      cut_unstuck limit (kept_tables means tables limit)
      (each_unstuck (kept_table means limit) tables
      (each_of (λ t. AllByRecursion (λ row. tested means limit row ≢ Stuck) t.rows) (λ t. kept_table means limit t ≢ Stuck) (kept_table_unstuck means limit) tables (each limit)))

  -- `map` is Stuck under no limit where its function makes a row of each row
  pub map_never_stuck : ((limit : ℕ) → EachRow (λ row. turned means limit row ≢ Stuck) tables) → NeverStuck (mapped means tables)
  unfolding mapped
  map_never_stuck each limit =
      cut_unstuck limit (and_then (mapped_tables means tables limit) (λ rows. Gives (regrouped rows) 0))
      (then_unstuck (mapped_tables means tables limit) (λ rows. Gives (regrouped rows) 0)
      (each_unstuck (mapped_table means limit) tables
      (each_of (λ t. AllByRecursion (λ row. turned means limit row ≢ Stuck) t.rows) (λ t. mapped_table means limit t ≢ Stuck) (mapped_table_unstuck means limit) tables (each limit)))
      (λ rows. gives_unstuck (regrouped rows)))

module _ (start stop : ℤ) where
  abbrev IsTaken : Row → Type 0
  IsTaken row = is_between start stop (get row (codes "_time")) ≢ Stuck

  ranged_table_unstuck : (t : Table) → AllByRecursion IsTaken t.rows → ranged_table start stop t ≢ Stuck
  ranged_table_unstuck t unstuck =
      then_unstuck (flat_each (row_between start stop) t.rows) (λ rows. Gives (map (bounded start stop) (left_of t.key t.rows rows)) 0)
      (each_unstuck (row_between start stop) t.rows (each_of IsTaken (λ row. row_between start stop row ≢ Stuck)
      (λ row h. then_unstuck (is_between start stop (get row (codes "_time"))) (λ between. Gives (if between then row ∷ [] else []) 0) h
      (λ between. gives_unstuck (if between then row ∷ [] else []))) t.rows unstuck))
      (λ rows. gives_unstuck (map (bounded start stop) (left_of t.key t.rows rows)))

  -- `range` is not Stuck where each row has a time, null or nothing under `_time`
  pub range_never_stuck : (tables : List Table) → EachRow IsTaken tables → ranged start stop tables ≢ Stuck
  unfolding ranged
  range_never_stuck tables unstuck =
      then_unstuck (flat_each (ranged_table start stop) tables) (λ ts. Gives (gathered ts) 0)
      (each_unstuck (ranged_table start stop) tables (each_of (λ t. AllByRecursion IsTaken t.rows) (λ t. ranged_table start stop t ≢ Stuck) ranged_table_unstuck tables unstuck))
      (λ ts. gives_unstuck (gathered ts))
