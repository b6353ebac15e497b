-- Rows beside what the rows before them come to, put behind groups.
use Rattle.std.proofs.Common.{◌≡◌, ◌≢◌, ℕ, ◌++◌, Bool, true, false, ℤ, List, [], ◌∷◌, map, refl, sym, ap, subst, ◌∙◌, append_assoc}
use Rattle.std.specs.Prelude.{cond, if◌then◌else◌, not, Option, None, Some, Err, ◌-ℤ◌, int_div}
use Rattle.std.specs.Bool.{OnTrue}
use Rattle.std.specs.Cmp.Lexicographic.{nat_list_cmp_total}
use Rattle.std.specs.FinMap as fin
use Rattle.std.specs.List.{AllByRecursion}
use Rattle.fx_base.specs.declared.halt.Halt.{Halt}
use Rattle.fx_base.specs.declared.fault.FaultKind.TheVariants.{Overflow}
use Rattle.fx_base.specs.declared.place.Place.{Place}
use Rattle.fx_value.specs.Calls.{Told}
use Rattle.fx_value.specs.Ends.{End, Gives, Faults, Stuck, and_then}
use Rattle.fx_value.specs.Works.{flat_each, into}
use Rattle.fx_value.specs.declared.scalar.Scalar.{Scalar}
use Rattle.fx_value.specs.declared.scalar.Scalar.TheVariants.{Int}
use Rattle.fx_value.proofs.Ends.{passed}
use Rattle.fx_value.proofs.Loops.{told_then, told_stops, told_unstuck}
use Rattle.fx_data.proofs.Lawful.{all-append}
use Rattle.fx_data.specs.Gathered.{table_of}
use Rattle.fx_data.specs.Regrouped.{regrouped}
use Rattle.fx_data.specs.Table.{HasKey}
use Rattle.fx_data.specs.declared.key.Key.{Key}
use Rattle.fx_data.specs.declared.keyed_row.KeyedRow.{KeyedRow}
use Rattle.fx_data.specs.declared.table.Table.{Table}
use Rattle.fx_group.specs.Answer.{Row}
use Rattle.fx_group.specs.Turned.{Groups, with_rows}
use Rattle.fx_group.proofs.Turned.{listed}
use Rattle.fx_shape.specs.Columns.{Label}
use Rattle.fx_shape.specs.Outcome.{applied, come_to, made_of, number, number_of, outcome_of}
use Rattle.fx_shape.specs.Run.{has_label, HaveOneKey, keyed}
use Rattle.fx_shape.specs.Running.{got, in_64_bits, ran, ran_row, ran_rows, ran_table, ran_tables, sum_with, with_before, with_number}
use Rattle.fx_shape.specs.declared.running.Outcome.{Outcome}
use Rattle.fx_shape.specs.declared.running.Outcome.TheVariants as outcome
use Rattle.fx_shape.specs.declared.running.Running.{Running}
use Rattle.fx_shape.specs.declared.running.Running.TheVariants as run
use Rattle.fx_shape.proofs.Gathers.{item_gives, item_unstuck, made_listed, state_stops}
use Rattle.fx_shape.proofs.Left.{tied}
use Rattle.fx_shape.proofs.Moves.{beside_key, kept_one}

-- ---- what is made of a row

abbrev told : Outcome → Label → Row → End (List Row)
told outcome column row = Gives (applied outcome column row) 0

number_told : (place : Place) (column : Label) (n : ℤ) (row : Row) → with_number place column n row ≡ and_then (number place n) (λ o. told o column row)
number_told place column n row = at (in_64_bits n)
  where
    at : (b : Bool) → (if b then Gives (fin.insert row column (Int n) ∷ []) 0 else Faults (record { kind = Overflow; place = place }) 0)
        ≡ and_then (if b then Gives (outcome.Put (Int n)) 0 else Faults (record { kind = Overflow; place = place }) 0) (λ o. told o column row)
    at true = refl
    at false = refl

-- what is made of a row is its outcome
pub made_told : (which : Running) (place : Place) (column : Label) (before n : Option ℤ) (row : Row)
    → made_of which place column before n row ≡ and_then (outcome_of which place before n) (λ o. told o column row)
made_told run.Difference place column None n row = refl
made_told run.Difference place column (Some last) None row = refl
made_told run.Difference place column (Some last) (Some n) row = number_told place column (n -ℤ last) row
made_told run.Sum place column sum None row = refl
made_told run.Sum place column sum (Some n) row = number_told place column (sum_with sum n) row
made_told (run.Elapsed unit) place column None n row = refl
made_told (run.Elapsed unit) place column (Some last) None row = refl
made_told (run.Elapsed unit) place column (Some last) (Some n) row = number_told place column (int_div (n -ℤ last) unit.nanos) row

module _ (which : Running) (place : Place) (column : Label) (before n : Option ℤ) (row : Row) (o : Outcome) (gives : outcome_of which place before n ≡ Gives o 0) where
  pub made_gives : made_of which place column before n row ≡ Gives (applied o column row) 0
  made_gives = made_told which place column before n row ∙ told_then (outcome_of which place before n) (λ p. told p column row) o gives

pub made_stops : (which : Running) (place : Place) (column : Label) (before n : Option ℤ) (row : Row) (why : Halt) → Told (outcome_of which place before n) (Err why)
    → Told (made_of which place column before n row) (Err why)
made_stops which place column before n row why stops =
    subst (λ e. Told e (Err why)) (sym (made_told which place column before n row)) (told_stops (outcome_of which place before n) (λ o. told o column row) why stops)

-- ---- rows keep the key of their table, where it lacks the column

module _ (key : Key) (column : Label) (lacks : has_label key column ≡ false) where
  put_beside : (row : Row) (value : Scalar) → HasKey key.entries row → HasKey key.entries (fin.insert row column value)
  put_beside row value h =
      beside_key column row (fin.insert row column value)
      (λ q apart. fin.get-insert nat_list_cmp_total row column value q ∙ ap (λ b. cond b (Some value) (fin.get row q)) (tied q column ∙ apart)) key.entries lacks h

  applied_has : (o : Outcome) (row : Row) → HasKey key.entries row → AllByRecursion (HasKey key.entries) (applied o column row)
  applied_has outcome.Drop row h = tt
  applied_has outcome.Keep row h = (h, tt)
  applied_has (outcome.Put value) row h = (put_beside row value h, tt)

  same_list : (xs ys : List Row) (ticks : ℕ) → Gives xs 0 ≡ Gives ys ticks → xs ≡ ys
  same_list xs ys ticks is = cc

  module _ (which : Running) (place : Place) (read : Row → End (Option ℤ)) (come : Option ℤ → Option ℤ → Option ℤ) where
    made_has : (before n : Option ℤ) (row : Row) (made : List Row) (ticks : ℕ) → HasKey key.entries row → made_of which place column before n row ≡ Gives made ticks
        → AllByRecursion (HasKey key.entries) made
    made_has before n row made ticks h is =
        let p = passed (outcome_of which place before n) (λ o. told o column row) made ticks (sym (made_told which place column before n row) ∙ is) in
        subst (AllByRecursion (HasKey key.entries)) (same_list (applied p.before column row) made p.rest p.next_gives) (applied_has p.before row h)

    ran_has : (before : Option ℤ) (rows made : List Row) (ticks : ℕ) → AllByRecursion (HasKey key.entries) rows
        → ran_rows come read (made_of which place column) before rows ≡ Gives made ticks → AllByRecursion (HasKey key.entries) made
    ran_has before [] made ticks h is = subst (AllByRecursion (HasKey key.entries)) (same_list [] made ticks is) tt
    ran_has before (row ∷ rows) made ticks h is =
        let later_rows = ran_rows come read (made_of which place column) (come before (got (read row))) rows in
        let here = passed (ran_row come read (made_of which place column) (before, row)) (λ us. and_then later_rows (λ zs. Gives (us ++ zs) 0)) made ticks is in
        let rest = passed later_rows (λ zs. Gives (here.before ++ zs) 0) made here.rest here.next_gives in
        let of_row = passed (read row) (λ n. made_of which place column before n row) here.before here.spent here.first_gives in
        subst (AllByRecursion (HasKey key.entries)) (same_list (here.before ++ rest.before) made rest.rest rest.next_gives)
        (all-append (HasKey key.entries) here.before rest.before
        (made_has before of_row.before row here.before of_row.rest h.0 of_row.next_gives)
        (ran_has (come before (got (read row))) rows rest.before rest.spent h.1 rest.first_gives))

    pub ran_one : (rows made : List Row) → AllByRecursion (HasKey key.entries) rows → ran_rows come read (made_of which place column) None rows ≡ Gives made 0 → HaveOneKey key made
    ran_one rows made h is = kept_one key made (ran_has None rows made 0 h is)

turned : (b : Bool) → true ≡ not b → b ≡ false
turned true e = e
turned false e = refl

-- where the key has not the column, the rows have one new key
pub ran_where : (key : Key) (column : Label) (which : Running) (place : Place) (read : Row → End (Option ℤ)) (come : Option ℤ → Option ℤ → Option ℤ) (rows made : List Row) (one : Bool)
    → AllByRecursion (HasKey key.entries) rows → ran_rows come read (made_of which place column) None rows ≡ Gives made 0 → one ≡ not (has_label key column) → OnTrue one (HaveOneKey key made)
ran_where key column which place read come rows made true h is lacks = ran_one key column (turned (has_label key column) lacks) which place read come rows made h is
ran_where key column which place read come rows made false h is lacks = tt

-- ---- tables

module _ (come : Option ℤ → Option ℤ → Option ℤ) (read : Row → End (Option ℤ)) (make : Option ℤ → Option ℤ → Row → End (List Row)) where
  module _ (t : Table) where
    pub table_unstuck : ran_table come read make t ≢ Stuck → ran_rows come read make None t.rows ≢ Stuck
    table_unstuck unstuck = told_unstuck (ran_rows come read make None t.rows) (λ rows. Gives (keyed t.key rows) 0) unstuck

    pub table_gives : (groups next : Groups) (rows : List Row) → ran_rows come read make None t.rows ≡ Gives rows 0 → next ≡ with_rows groups (keyed t.key rows)
        → into with_rows groups (ran_table come read make t) ≡ Gives next 0
    table_gives groups next rows gives is =
        ap (into with_rows groups) (told_then (ran_rows come read make None t.rows) (λ rs. Gives (keyed t.key rs) 0) rows gives) ∙ ap (λ (g : Groups). Gives g 0) (sym is)

    pub table_stops : (groups : Groups) (why : Halt) → Told (ran_rows come read make None t.rows) (Err why) → Told (into with_rows groups (ran_table come read make t)) (Err why)
    table_stops groups why stops =
        told_stops (ran_table come read make t) (λ rows. Gives (with_rows groups rows) 0) why
        (told_stops (ran_rows come read make None t.rows) (λ rows. Gives (keyed t.key rows) 0) why stops)

  module _ (tables : List Table) where
    abbrev made : End (List KeyedRow)
    made = ran_tables come read make tables

    pub ran_unstuck : ran come read make tables ≢ Stuck → made ≢ Stuck
    ran_unstuck unstuck = told_unstuck made (λ rows. Gives (regrouped rows) 0) unstuck

    pub ran_gives : (groups : Groups) (ts : List Table) → into with_rows fin.empty made ≡ Gives groups 0 → ts ≡ map table_of (fin.entries groups) → ran come read make tables ≡ Gives ts 0
    ran_gives groups ts gives is =
        made_listed made ∙ told_then (into with_rows fin.empty made) (λ g. Gives (listed g) 0) groups gives ∙ ap (λ (us : List Table). Gives us 0) (sym is)

    pub ran_stops : (why : Halt) → Told (into with_rows fin.empty made) (Err why) → Told (ran come read make tables) (Err why)
    ran_stops why stops = subst (λ e. Told e (Err why)) (sym (made_listed made)) (told_stops (into with_rows fin.empty made) (λ g. Gives (listed g) 0) why stops)

-- ---- a row more of a table

module _ (which : Running) (place : Place) (column read : Label) (whole : List Row) where
  abbrev step : Option ℤ × Row → End (List Row)
  step = ran_row (come_to which) (λ row. number_of which (fin.get row read)) (made_of which place column)

  abbrev ahead : Option ℤ → List Row → List (Option ℤ × Row)
  ahead = with_before (come_to which) (λ row. number_of which (fin.get row read))

  abbrev all : End (List Row)
  all = ran_rows (come_to which) (λ row. number_of which (fin.get row read)) (made_of which place column) None whole

  module _ (done : List Row) (before : Option ℤ) (left : List Row) (goes : all ≡ into ◌++◌ done (flat_each step (ahead before left))) (row : Row) (rows : List Row) (is : left ≡ row ∷ rows) where
    abbrev item : Option ℤ × Row
    item = (before, row)

    abbrev items : List (Option ℤ × Row)
    items = ahead (come_to which before (got (number_of which (fin.get row read)))) rows

    split : ahead before left ≡ item ∷ items
    split = ap (ahead before) is

    pub row_unstuck : all ≢ Stuck → number_of which (fin.get row read) ≢ Stuck
    row_unstuck unstuck =
        told_unstuck (number_of which (fin.get row read)) (λ n. made_of which place column before n row)
        (item_unstuck ◌++◌ step all done (ahead before left) goes item items split unstuck)

    module _ (n : Option ℤ) (number_is : number_of which (fin.get row read) ≡ Gives n 0) where
      step_is : step item ≡ made_of which place column before n row
      step_is = told_then (number_of which (fin.get row read)) (λ m. made_of which place column before m row) n number_is

      pub row_goes : (o : Outcome) → outcome_of which place before n ≡ Gives o 0 → (next : List Row) → next ≡ done ++ applied o column row → (after : Option ℤ) → after ≡ come_to which before n
          → all ≡ into ◌++◌ next (flat_each step (ahead after rows))
      row_goes o gives next next_is after after_is =
          item_gives ◌++◌ step all done (ahead before left) goes item items split (λ h ys zs. sym (append_assoc h ys zs)) (applied o column row) (step_is ∙ made_gives which place column before n row o gives)
          ∙ (λ i. into ◌++◌ (sym next_is i) (flat_each step (ahead ((ap (come_to which before) (ap got number_is) ∙ sym after_is) i) rows)))

      pub row_stops : (why : Halt) → Told (outcome_of which place before n) (Err why) → Told all (Err why)
      row_stops why stops =
          state_stops ◌++◌ step all done (ahead before left) goes item items split (λ h ys zs. sym (append_assoc h ys zs)) why
          (told_stops (step item) (λ ys. Gives (done ++ ys) 0) why
          (subst (λ e. Told e (Err why)) (sym step_is) (made_stops which place column before n row why stops)))
