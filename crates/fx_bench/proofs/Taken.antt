-- Which tables windows, pivots, joins and differences take.
use Rattle.std.proofs.Common.{◌≡◌, ◌≢◌, ℕ, ◌≤◌, ℤ, Bool, true, false, List, [], ◌∷◌, ◌++◌, ◌-ℤ◌, get_or, length, refl, sym, subst, arith}
use Rattle.std.specs.Prelude.{Option, None, Some, ◌&&◌, codes, if◌then◌else◌}
use Rattle.std.specs.FinMap.{get, insert}
use Rattle.std.specs.List.{AllByRecursion, join_by, list_all}
use Rattle.fx_base.specs.declared.fault.FaultKind.TheVariants.{Overflow}
use Rattle.fx_base.specs.declared.place.Place.{Place}
use Rattle.fx_data.specs.Regrouped.{regrouped}
use Rattle.fx_data.specs.declared.keyed_row.KeyedRow.{KeyedRow}
use Rattle.fx_data.specs.declared.table.Table.{Table}
use Rattle.fx_group.specs.Answer.{Row, Meaning}
use Rattle.fx_group.proofs.Unstuck.{EachRow, each_of, every_row}
use Rattle.fx_join.specs.Joined.{joined}
use Rattle.fx_join.specs.declared.side.Side.{Side}
use Rattle.fx_join.proofs.Unstuck.{Takes, join_never_stuck}
use Rattle.fx_pivot.specs.Cells.{text_of, texts_of}
use Rattle.fx_pivot.specs.Pivot.{are_apart, pivoted}
use Rattle.fx_pivot.proofs.Unstuck.{HasName, pivot_never_stuck}
use Rattle.fx_shape.specs.Columns.{Label}
use Rattle.fx_shape.specs.Run.{keyed}
use Rattle.fx_shape.specs.Running.{differenced, got, in_64_bits, int_of, latest, less_last, ran_row, ran_rows, ran_table, with_before, with_number}
use Rattle.fx_time.specs.declared.span.Span.{Span}
use Rattle.fx_value.specs.declared.answer.Answer.TheVariants.{Cell}
use Rattle.fx_value.specs.declared.scalar.Scalar.{Scalar}
use Rattle.fx_value.specs.declared.scalar.Scalar.TheVariants as scalar
use Rattle.fx_value.specs.Ends.{End, Gives, Faults, Stuck, More, NeverStuck, and_then, later}
use Rattle.fx_value.specs.Works.{flat_each}
use Rattle.fx_window.specs.Cut.{cut_of}
use Rattle.fx_window.specs.Standing.{time_of}
use Rattle.fx_window.specs.Window.{windowed}
use Rattle.fx_window.proofs.Unstuck.{HasTimes, cut_never_stuck, window_never_stuck}
use Rattle.fx_bench.specs.Counted.{has_counted_rows, is_counted, may_be_int}
use Rattle.fx_bench.specs.FirstRow.{made_of_first}
use Rattle.fx_bench.specs.Named.{has_named_rows, is_named, may_be_name}
use Rattle.fx_bench.specs.Timed.{has_timed_rows, have_times, is_timed, may_be_time}
use Rattle.fx_bench.proofs.Always.{first_true, second_true}

-- ---- windows

time_taken : (value : Option Scalar) → may_be_time value ≡ true → time_of value ≢ Stuck
time_taken None is = λ h. cc
time_taken (Some scalar.Null) is = λ h. cc
time_taken (Some (scalar.Time t)) is = λ h. cc
time_taken (Some (scalar.Bool b)) is = cc
time_taken (Some (scalar.Int n)) is = cc
time_taken (Some (scalar.Text t)) is = cc

AllTimed : Label → List Row → Type 0
AllTimed label rows = list_all (is_timed label) rows ≡ true

times_taken : (rows : List Row) → AllTimed (codes "_time") rows → AllTimed (codes "_start") rows → AllTimed (codes "_stop") rows → AllByRecursion HasTimes rows
unfolding AllTimed
times_taken [] time start stop = tt
times_taken (row ∷ rows) time start stop = (
  (time_taken (get row (codes "_time")) (first_true _ _ time), time_taken (get row (codes "_start")) (first_true _ _ start), time_taken (get row (codes "_stop")) (first_true _ _ stop)),
  times_taken rows (second_true _ _ time) (second_true _ _ start) (second_true _ _ stop),
)

tables_timed : (tables : List Table) → list_all (has_timed_rows (codes "_time")) tables ≡ true → list_all (has_timed_rows (codes "_start")) tables ≡ true
    → list_all (has_timed_rows (codes "_stop")) tables ≡ true → EachRow HasTimes tables
unfolding AllTimed
tables_timed [] time start stop = tt
tables_timed (t ∷ tables) time start stop = (
  times_taken t.rows (first_true _ _ time) (first_true _ _ start) (first_true _ _ stop),
  tables_timed tables (second_true _ _ time) (second_true _ _ start) (second_true _ _ stop),
)

all_timed : (tables : List Table) → have_times tables ≡ true → EachRow HasTimes tables
all_timed tables h = let bounds = second_true _ _ h in tables_timed tables (first_true _ _ h) (first_true _ _ bounds) (second_true _ _ bounds)

pub timed_window : (place : Place) (every period : Span) (tables : List Table) → have_times tables ≡ true → windowed place every period tables ≢ Stuck
timed_window place every period tables h = window_never_stuck every period place tables (all_timed tables h)

pub timed_cut : (every : Span) (all : Bool) (t : Table) (tables : List Table) → 1 ≤ length tables → t ≡ get_or tables 0 t → have_times tables ≡ true → cut_of every all t ≢ Stuck
timed_cut every all t [] some is h = absurd (omega arith)
timed_cut every all t (first ∷ tables) some is h = subst (λ (x : Table). cut_of every all x ≢ Stuck) (sym is) (cut_never_stuck every all first (all_timed (first ∷ tables) h).0)

-- ---- joins of no pairs

pub no_pairs : (side : Side) (lefts rights : List Table)
    → NeverStuck (joined (λ (rows : List Row) (limit : ℕ). Gives (Cell (scalar.Bool false)) 0) (λ (rows : List Row) (limit : ℕ). made_of_first (λ row. row) rows) side lefts rights)
no_pairs side lefts rights =
    let anything : Row → Type 0 = λ row. Unit {0} in
    join_never_stuck anything anything (λ (rows : List Row) (limit : ℕ). Gives (Cell (scalar.Bool false)) 0) (λ (rows : List Row) (limit : ℕ). made_of_first (λ row. row) rows) side lefts rights
    (every_row anything (λ row. tt) lefts) (every_row anything (λ row. tt) rights)
    (λ limit. record { pairs = λ l r p q h. cc; rows = λ l r p q h. cc; lefts = λ l p h. cc; rights = λ r q h. cc })

-- ---- pivots

later_unstuck : {A : Type 0} (before : ℕ) (e : End A) → e ≢ Stuck → later before e ≢ Stuck
later_unstuck before (Gives v t) unstuck = λ is. cc
later_unstuck before (Faults f t) unstuck = λ is. cc
later_unstuck before Stuck unstuck = unstuck
later_unstuck before More unstuck = λ is. cc

then_unstuck : {A B : Type 0} (e : End A) (next : A → End B) → e ≢ Stuck → ((v : A) → next v ≢ Stuck) → and_then e next ≢ Stuck
then_unstuck (Gives v t) next unstuck after = later_unstuck t (next v) (after v)
then_unstuck (Faults f t) next unstuck after = λ is. cc
then_unstuck Stuck next unstuck after = λ _. unstuck refl
then_unstuck More next unstuck after = λ is. cc

gives_unstuck : {A : Type 0} (v : A) → Gives v 0 ≢ Stuck
gives_unstuck v = λ is. cc

each_unstuck : {X Y : Type 0} (step : X → End (List Y)) (xs : List X) → AllByRecursion (λ x. step x ≢ Stuck) xs → flat_each step xs ≢ Stuck
each_unstuck step [] unstuck = gives_unstuck []
each_unstuck step (x ∷ xs) unstuck =
    then_unstuck (step x) (λ ys. and_then (flat_each step xs) (λ zs. Gives (ys ++ zs) 0)) unstuck.0
    (λ ys. then_unstuck (flat_each step xs) (λ zs. Gives (ys ++ zs) 0) (each_unstuck step xs unstuck.1) (λ zs. gives_unstuck (ys ++ zs)))

text_taken : (value : Option Scalar) → may_be_name value ≡ true → text_of value ≢ Stuck
text_taken None is = λ h. cc
text_taken (Some scalar.Null) is = λ h. cc
text_taken (Some (scalar.Text t)) is = λ h. cc
text_taken (Some (scalar.Bool b)) is = cc
text_taken (Some (scalar.Int n)) is = cc
text_taken (Some (scalar.Time t)) is = cc

name_taken : (label : Label) (row : Row) → may_be_name (get row label) ≡ true → HasName (label ∷ []) row
name_taken label row is =
    let step = λ (l : Label). and_then (text_of (get row l)) (λ (text : Label). Gives (text ∷ []) 0) in
    then_unstuck (texts_of (label ∷ []) row) (λ texts. Gives (join_by (λ text. text) (codes "_") texts) 0)
    (each_unstuck step (label ∷ []) (then_unstuck (text_of (get row label)) (λ text. Gives (text ∷ []) 0) (text_taken (get row label) is) (λ text. gives_unstuck (text ∷ [])), tt))
    (λ texts. gives_unstuck (join_by (λ text. text) (codes "_") texts))

names_taken : (label : Label) (rows : List Row) → list_all (is_named label) rows ≡ true → AllByRecursion (HasName (label ∷ [])) rows
names_taken label [] is = tt
names_taken label (row ∷ rows) is = (name_taken label row (first_true _ _ is), names_taken label rows (second_true _ _ is))

tables_named : (label : Label) (tables : List Table) → list_all (has_named_rows label) tables ≡ true → EachRow (HasName (label ∷ [])) tables
tables_named label [] is = tt
tables_named label (t ∷ tables) is = (names_taken label t.rows (first_true _ _ is), tables_named label tables (second_true _ _ is))

pub named_pivot : (place : Place) (rows columns : List Label) (value label : Label) (tables : List Table) → columns ≡ label ∷ [] → are_apart rows columns value ≡ true
    → list_all (has_named_rows label) tables ≡ true → pivoted place rows columns value tables ≢ Stuck
named_pivot place rows columns value label tables is apart named =
    pivot_never_stuck place rows columns value tables apart (subst (λ (labels : List Label). EachRow (HasName labels) tables) (sym is) (tables_named label tables named))

-- ---- differences

numbered : (place : Place) (column : Label) (n : ℤ) (row : Row) → with_number place column n row ≢ Stuck
numbered place column n row =
    elim (in_64_bits n) as (λ b. ◌≢◌ {A = End (List Row)} (if b then Gives (insert row column (scalar.Int n) ∷ []) 0 else Faults (record { kind = Overflow; place = place }) 0) Stuck) [
      | true ↦ λ is. cc
      | false ↦ λ is. cc
    ]

module _ (place : Place) (column : Label) where
  abbrev read : Row → End (Option ℤ)
  read row = int_of (get row column)

  int_taken : (value : Option Scalar) → may_be_int value ≡ true → int_of value ≢ Stuck
  int_taken None is = λ h. cc
  int_taken (Some scalar.Null) is = λ h. cc
  int_taken (Some (scalar.Int n)) is = λ h. cc
  int_taken (Some (scalar.Bool b)) is = cc
  int_taken (Some (scalar.Time t)) is = cc
  int_taken (Some (scalar.Text t)) is = cc

  less_taken : (before n : Option ℤ) (row : Row) → less_last place column before n row ≢ Stuck
  less_taken None n row = gives_unstuck []
  less_taken (Some last) None row = gives_unstuck (row ∷ [])
  less_taken (Some last) (Some n) row = numbered place column (n -ℤ last) row

  rows_taken : (before : Option ℤ) (rows : List Row) → list_all (is_counted column) rows ≡ true
      → AllByRecursion (λ p. ran_row latest read (less_last place column) p ≢ Stuck) (with_before latest read before rows)
  rows_taken before [] is = tt
  rows_taken before (row ∷ rows) is = (
    then_unstuck (read row) (λ n. less_last place column before n row) (int_taken (get row column) (first_true _ _ is)) (λ n. less_taken before n row),
    rows_taken (latest before (got (read row))) rows (second_true _ _ is),
  )

  tables_taken : (tables : List Table) → list_all (has_counted_rows column) tables ≡ true → AllByRecursion (λ t. ran_table latest read (less_last place column) t ≢ Stuck) tables
  tables_taken [] is = tt
  tables_taken (t ∷ tables) is = (
    then_unstuck (ran_rows latest read (less_last place column) None t.rows) (λ (rows : List Row). Gives (keyed t.key rows) 0)
        (each_unstuck (ran_row latest read (less_last place column)) (with_before latest read None t.rows) (rows_taken None t.rows (first_true _ _ is)))
        (λ rows. gives_unstuck (keyed t.key rows)),
    tables_taken tables (second_true _ _ is),
  )

  pub counted_difference : (tables : List Table) → list_all (has_counted_rows column) tables ≡ true → differenced place column tables ≢ Stuck
  unfolding differenced
  counted_difference tables is =
      then_unstuck (flat_each (ran_table latest read (less_last place column)) tables) (λ (rows : List KeyedRow). Gives (regrouped rows) 0)
      (each_unstuck (ran_table latest read (less_last place column)) tables (tables_taken tables is)) (λ rows. gives_unstuck (regrouped rows))
