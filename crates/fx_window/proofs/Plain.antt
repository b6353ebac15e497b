-- Windows of rows whose times are times are what the code makes of them.
use Rattle.std.proofs.Common.{◌≡◌, ◌≢◌, Bool, true, false, List, [], ◌∷◌, ◌++◌, map, ℤ, refl, sym, ap, ◌∙◌, arith}
use Rattle.std.proofs.lemmas.Int.{ints}
use Rattle.std.specs.Prelude.{◌↔◌, ℕ, cond, Option, None, Some, codes, if◌then◌else◌}
use Rattle.std.specs.FinMap as fin
use Rattle.std.specs.FinMap.{get}
use Rattle.std.specs.FinMap.Entries.{find}
use Rattle.std.specs.List.{flat_map, AllByRecursion}
use Rattle.std.specs.Ordering.{eq_by_cmp}
use Rattle.fx_base.specs.Text.{text_cmp}
use Rattle.fx_base.specs.declared.fault.FaultKind.TheVariants.{BadWindow}
use Rattle.fx_base.specs.declared.place.Place.{Place}
use Rattle.fx_time.specs.Windows.{IsWindow, IsWindowPair}
use Rattle.fx_time.specs.declared.span.Span.{Span}
use Rattle.fx_value.specs.declared.scalar.Scalar.{Scalar}
use Rattle.fx_value.specs.declared.scalar.Scalar.TheVariants as scalar
use Rattle.fx_value.specs.Ends.{End, Gives, Faults, Stuck, and_then}
use Rattle.fx_value.specs.Works.{flat_each}
use Rattle.fx_value.proofs.Loops.{told_then, told_unstuck}
use Rattle.fx_data.specs.Columns.{key_with}
use Rattle.fx_data.specs.Gathered.{table_of, grouped, gathered}
use Rattle.fx_data.specs.Regrouped.{alone, regrouped}
use Rattle.fx_data.specs.Table.{HasKey, HasRisingLabels, IsLawfulTable}
use Rattle.fx_data.specs.declared.key.Key.{Key}
use Rattle.fx_data.specs.declared.key.KeyEntry.{KeyEntry}
use Rattle.fx_data.specs.declared.keyed_row.KeyedRow.{KeyedRow}
use Rattle.fx_data.specs.declared.table.Table.{Table}
use Rattle.fx_data.proofs.Columns.{key_with_rises}
use Rattle.fx_data.proofs.Lawful.{all-append}
use Rattle.fx_group.specs.Answer.{Row}
use Rattle.fx_group.specs.RangeRows.{bounded_key}
use Rattle.fx_group.specs.Turned.{Groups}
use Rattle.fx_window.specs.Cut.{bounds_of, cut_by, cut_of}
use Rattle.fx_window.specs.Lengths.{is_length, are_lengths}
use Rattle.fx_window.specs.Plain.{time_in, stand_in, placed_in, placed_all, copies_all, stop_from, stop_in, uncut_set, uncut_all}
use Rattle.fx_window.specs.Standing.{time_of, stand_by, stand_of, placed_by, placed_row, placed_rows}
use Rattle.fx_window.specs.Uncut.{stop_by, value_of, value_in, uncut_row, uncut_window, uncut_of}
use Rattle.fx_window.specs.Window.{copies, windowed_table, windowed_tables, windowed}
use Rattle.fx_window.specs.declared.cutting.Bounds.{Bounds}
use Rattle.fx_window.specs.declared.cutting.CutTable.{CutTable}
use Rattle.fx_window.specs.declared.standing.Placed.{Placed}
use Rattle.fx_window.specs.declared.standing.Stand.{Stand}

-- steps that give plain lists where they aren't Stuck, one after another
each_plain : {X Y : Type 0} (step : X → End (List Y)) (plain : X → List Y) → ((x : X) → step x ≢ Stuck → step x ≡ Gives (plain x) 0)
    → (xs : List X) → flat_each step xs ≢ Stuck → flat_each step xs ≡ Gives (flat_map plain xs) 0
each_plain step plain one [] unstuck = refl
each_plain {X} {Y} step plain one (x ∷ xs) unstuck =
    let rest : List Y → End (List Y) = λ ys. and_then (flat_each step xs) (λ zs. Gives (ys ++ zs) 0) in
    let here : step x ≡ Gives (plain x) 0 = one x (told_unstuck (step x) rest unstuck) in
    let after : and_then (step x) rest ≡ rest (plain x) = told_then (step x) rest (plain x) here in
    let left : flat_each step xs ≢ Stuck = told_unstuck (flat_each step xs) (λ zs. Gives (plain x ++ zs) 0) (λ stuck. unstuck (after ∙ stuck)) in
    after ∙ told_then (flat_each step xs) (λ zs. Gives (plain x ++ zs) 0) (flat_map plain xs) (each_plain step plain one xs left)

-- one part that gives a value where it isn't Stuck, and what follows from it
module _ {A B : Type 0} (part : End A) (plain : A) (one : part ≢ Stuck → part ≡ Gives plain 0) (next : A → End B) (unstuck : and_then part next ≢ Stuck) where
  goes_on : and_then part next ≡ next plain
  goes_on = told_then part next plain (one (told_unstuck part next unstuck))

  next_unstuck : next plain ≢ Stuck
  next_unstuck stuck = unstuck (goes_on ∙ stuck)

time_plain : (value : Option Scalar) → time_of value ≢ Stuck → time_of value ≡ Gives (time_in value) 0
time_plain None unstuck = refl
time_plain (Some scalar.Null) unstuck = refl
time_plain (Some (scalar.Time t)) unstuck = refl
time_plain (Some (scalar.Bool b)) unstuck = absurd (unstuck refl)
time_plain (Some (scalar.Int n)) unstuck = absurd (unstuck refl)
time_plain (Some (scalar.Text t)) unstuck = absurd (unstuck refl)

stand_plain : (row : Row) → stand_of row ≢ Stuck → stand_of row ≡ Gives (stand_in row) 0
stand_plain row unstuck =
    let time = get row (codes "_time") in
    let start = get row (codes "_start") in
    let stop = get row (codes "_stop") in
    let third : Option ℤ → Option ℤ → Option ℤ → End (Option Stand) = λ t low high. Gives (stand_by t low high) 0 in
    let second : Option ℤ → Option ℤ → End (Option Stand) = λ t low. and_then (time_of stop) (third t low) in
    let first : Option ℤ → End (Option Stand) = λ t. and_then (time_of start) (second t) in
    let after_first = next_unstuck (time_of time) (time_in time) (time_plain time) first unstuck in
    let after_second = next_unstuck (time_of start) (time_in start) (time_plain start) (second (time_in time)) after_first in
    goes_on (time_of time) (time_in time) (time_plain time) first unstuck
    ∙ goes_on (time_of start) (time_in start) (time_plain start) (second (time_in time)) after_first
    ∙ goes_on (time_of stop) (time_in stop) (time_plain stop) (third (time_in time) (time_in start)) after_second

row_plain : (row : Row) → placed_row row ≢ Stuck → placed_row row ≡ Gives (placed_in row) 0
row_plain row unstuck = goes_on (stand_of row) (stand_in row) (stand_plain row) (λ at. Gives (placed_by row at) 0) unstuck

rows_plain : (rows : List Row) → placed_rows rows ≢ Stuck → placed_rows rows ≡ Gives (placed_all rows) 0
rows_plain rows unstuck = each_plain placed_row placed_in row_plain rows unstuck

module _ (every period : Span) where
  table_plain : (t : Table) → windowed_table every period t ≢ Stuck → windowed_table every period t ≡ Gives (copies_all every period t) 0
  table_plain t unstuck =
      goes_on (placed_rows t.rows) (placed_all t.rows) (rows_plain t.rows) (λ (ps : List Placed). Gives (flat_map (copies every period t.key) ps) 0) unstuck

  tables_plain : (tables : List Table) → windowed_tables every period tables ≢ Stuck → windowed_tables every period tables ≡ Gives (flat_map (copies_all every period) tables) 0
  tables_plain tables unstuck = each_plain (windowed_table every period) (copies_all every period) table_plain tables unstuck

  module _ (place : Place) (tables : List Table) where
    both : Bool → End (List Table)
    both good = if good then and_then (windowed_tables every period tables) (λ rows. Gives (regrouped rows) 0) else Faults (record { kind = BadWindow; place = place }) 0

    -- windows of such lengths that aren't Stuck are the rows in their windows, regrouped
    pub window_plain : are_lengths every period ≡ true → windowed place every period tables ≢ Stuck
        → windowed place every period tables ≡ Gives (regrouped (flat_map (copies_all every period) tables)) 0
    unfolding windowed both
    window_plain good unstuck =
        ap both good
        ∙ goes_on (windowed_tables every period tables) (flat_map (copies_all every period) tables) (tables_plain tables) (λ (rows : List KeyedRow). Gives (regrouped rows) 0)
        (λ stuck. unstuck (ap both good ∙ stuck))

    pub window_bad : are_lengths every period ≡ false → windowed place every period tables ≡ Faults (record { kind = BadWindow; place = place }) 0
    unfolding windowed both
    window_bad bad = ap both bad

-- a cut that isn't Stuck is made of the rows that have their times
pub cut_plain : (every : Span) (all : Bool) (t : Table) → cut_of every all t ≢ Stuck
    → cut_of every all t ≡ Gives (cut_by every all t.key (placed_all t.rows) (bounds_of (placed_all t.rows))) 0
unfolding cut_of
cut_plain every all t unstuck =
    goes_on (placed_rows t.rows) (placed_all t.rows) (rows_plain t.rows) (λ (ps : List Placed). Gives (cut_by every all t.key ps (bounds_of ps)) 0) unstuck

-- the rows that have their times are rows of the table
pub placed_has : (entries : List KeyEntry) (rows : List Row) → AllByRecursion (HasKey entries) rows → AllByRecursion (λ p. HasKey entries p.row) (placed_all rows)
placed_has entries [] h = tt
placed_has entries (row ∷ rows) h =
    elim (stand_in row) as (λ at. AllByRecursion (λ (p : Placed). HasKey entries p.row) (placed_by row at ++ placed_all rows)) [
      | None ↦ placed_has entries rows h.1
      | Some at ↦ (h.0, placed_has entries rows h.1)
    ]

-- runs of the rows in their windows, as tables
pub windows_listed : (a b every period : Span) → a ≡ every → b ≡ period → (tables : List Table) (runs : Groups) (ts : List Table)
    → runs ≡ grouped (map alone (flat_map (copies_all a b) tables)) → ts ≡ map table_of (fin.entries runs) → ts ≡ regrouped (flat_map (copies_all every period) tables)
unfolding gathered
windows_listed a b every period first second tables runs ts made is =
    is ∙ ap (λ (groups : Groups). map table_of (fin.entries groups)) made
    ∙ (λ i. regrouped (flat_map (copies_all (first i) (second i)) tables))

-- what is cut is a cut of the table
pub cut_is : (every : Span) (all : Bool) (t : Table) (placed : List Placed) (bounds : Option Bounds) (parts : CutTable) → cut_of every all t ≢ Stuck → placed ≡ placed_all t.rows
    → bounds ≡ bounds_of placed → parts ≡ cut_by every all t.key placed bounds → cut_of every all t ≡ Gives parts 0
cut_is every all t placed bounds parts unstuck is found made =
    cut_plain every all t unstuck
    ∙ ap (λ (ps : List Placed). Gives (cut_by every all t.key ps (bounds_of ps)) 0) (sym is)
    ∙ ap (λ (b : Option Bounds). Gives (cut_by every all t.key placed b) 0) (sym found)
    ∙ ap (λ (p : CutTable). Gives p 0) (sym made)

-- ---- windows put together again

-- an entry with another label is passed over, and the first with the label is found
pub found_later : (label : List ℕ) (e : KeyEntry) (es : List KeyEntry) → eq_by_cmp text_cmp label e.label ≡ false
    → find text_cmp label (map value_of (e ∷ es)) ≡ find text_cmp label (map value_of es)
found_later label e es apart = ap (λ b. cond b (Some e.value) (find text_cmp label (map value_of es))) apart

pub found_here : (label : List ℕ) (e : KeyEntry) (es : List KeyEntry) → eq_by_cmp text_cmp label e.label ≡ true → find text_cmp label (map value_of (e ∷ es)) ≡ Some e.value
found_here label e es same = ap (λ b. cond b (Some e.value) (find text_cmp label (map value_of es))) same

stop_plain : (value : Option Scalar) → stop_by value ≢ Stuck → stop_by value ≡ Gives (stop_from value) 0
stop_plain None unstuck = absurd (unstuck refl)
stop_plain (Some scalar.Null) unstuck = absurd (unstuck refl)
stop_plain (Some (scalar.Time t)) unstuck = refl
stop_plain (Some (scalar.Bool b)) unstuck = absurd (unstuck refl)
stop_plain (Some (scalar.Int n)) unstuck = absurd (unstuck refl)
stop_plain (Some (scalar.Text t)) unstuck = absurd (unstuck refl)

uncut_plain : (start stop : ℤ) (t : Table) → uncut_window start stop t ≢ Stuck → uncut_window start stop t ≡ Gives (uncut_all start stop t) 0
uncut_plain start stop t unstuck =
    goes_on (stop_by (value_in t.key (codes "_stop"))) (stop_in t.key) (stop_plain (value_in t.key (codes "_stop"))) (λ last. Gives (map (uncut_row start stop t.key last) t.rows) 0) unstuck

-- windows that have their stops in their keys are put together to these rows
pub uncut_is : (parts : CutTable) (rows : List KeyedRow) → uncut_of parts ≢ Stuck → rows ≡ flat_map (uncut_all parts.start parts.stop) parts.windows → uncut_of parts ≡ Gives rows 0
unfolding uncut_of
uncut_is parts rows unstuck is =
    each_plain (uncut_window parts.start parts.stop) (uncut_all parts.start parts.stop) (uncut_plain parts.start parts.stop) parts.windows unstuck
    ∙ ap (λ (rs : List KeyedRow). Gives rs 0) (sym is)

-- their keys rise
uncut_rise : (start stop : ℤ) (key : Key) (last : ℤ) (rows : List Row) → HasRisingLabels key → AllByRecursion (λ r. HasRisingLabels r.key) (map (uncut_row start stop key last) rows)
uncut_rise start stop key last [] rising = tt
uncut_rise start stop key last (row ∷ rows) rising = (
  key_with_rises (key_with key (codes "_start") (scalar.Time start)) (codes "_stop") (scalar.Time stop) (key_with_rises key (codes "_start") (scalar.Time start) rising),
  uncut_rise start stop key last rows rising,
)

pub uncut_all_rise : (start stop : ℤ) (tables : List Table) → AllByRecursion IsLawfulTable tables → AllByRecursion (λ r. HasRisingLabels r.key) (flat_map (uncut_all start stop) tables)
uncut_all_rise start stop [] lawful = tt
uncut_all_rise start stop (t ∷ tables) lawful =
    all-append (λ (r : KeyedRow). HasRisingLabels r.key) (uncut_all start stop t) (flat_map (uncut_all start stop) tables)
    (uncut_rise start stop t.key (stop_in t.key) t.rows lawful.0.rising) (uncut_all_rise start stop tables lawful.1)

set_all : (start stop : ℤ) (key : Key) (last : ℤ) (rows : List Row)
    → ◌≡◌ {A = List KeyedRow} (map (λ row. record { key = bounded_key start stop key; row = row }) (map (uncut_set start stop last) rows)) (map (uncut_row start stop key last) rows)
set_all start stop key last [] = refl
set_all start stop key last (row ∷ rows) = ap (λ (rs : List KeyedRow). uncut_row start stop key last row ∷ rs) (set_all start stop key last rows)

-- rows that are set, under the key with the bounds
pub uncut_rows : (start stop : ℤ) (t : Table)
    → ◌≡◌ {A = List KeyedRow} (map (λ row. record { key = bounded_key start stop t.key; row = row }) (map (uncut_set start stop (stop_in t.key)) t.rows)) (uncut_all start stop t)
uncut_rows start stop t = set_all start stop t.key (stop_in t.key) t.rows

-- ---- lengths of windows

length_holds : (span : Span) → IsWindow span → is_length span ≡ true
length_holds span window = grind (arith, ints, window)

length_only : (span : Span) → is_length span ≡ true → IsWindow span
length_only span e = grind (arith, ints)

pair_holds : (every period : Span) → IsWindowPair every period → are_lengths every period ≡ true
pair_holds every period pair =
    let first = length_holds every pair.0 in
    let second = length_holds period pair.1 in
    let third = pair.2 in
    grind (arith, ints, first, second, third)

pair_only : (every period : Span) → are_lengths every period ≡ true → IsWindowPair every period
pair_only every period e =
    let first : is_length every ≡ true = grind (arith, ints) in
    let second : is_length period ≡ true = grind (arith, ints) in
    (length_only every first, length_only period second, λ some. grind (arith, ints))

-- what the test of pairs answers
pub pair_is : (every period : Span) (r : Bool) → (r ≡ true) ↔ IsWindowPair every period → are_lengths every period ≡ r
pair_is every period true is = pair_holds every period (is.0 refl)
pair_is every period false is = elim (are_lengths every period) as (λ b. are_lengths every period ≡ b → b ≡ false) [
  | true ↦ λ e. sym (is.1 (pair_only every period e))
  | false ↦ λ e. refl
] refl
