-- When windows are not Stuck.
use Rattle.std.proofs.Common.{◌≢◌, Bool, true, false, List, [], ◌∷◌, ◌++◌, ℕ, refl}
use Rattle.std.specs.Prelude.{codes, if◌then◌else◌}
use Rattle.std.specs.FinMap.{get}
use Rattle.std.specs.List.{flat_map, AllByRecursion}
use Rattle.fx_base.specs.declared.fault.FaultKind.TheVariants.{BadWindow}
use Rattle.fx_base.specs.declared.place.Place.{Place}
use Rattle.fx_time.specs.declared.span.Span.{Span}
use Rattle.fx_value.specs.Ends.{End, Gives, Faults, Stuck, More, later, and_then}
use Rattle.fx_value.specs.Works.{flat_each}
use Rattle.fx_data.specs.Regrouped.{regrouped}
use Rattle.fx_data.specs.declared.table.Table.{Table}
use Rattle.fx_group.specs.Answer.{Row}
use Rattle.fx_group.proofs.Unstuck.{EachRow, each_of}
use Rattle.fx_window.specs.Cut.{bounds_of, cut_by, cut_of}
use Rattle.fx_window.specs.Lengths.{are_lengths}
use Rattle.fx_window.specs.Standing.{time_of, stand_by, stand_of, placed_by, placed_row, placed_rows}
use Rattle.fx_window.specs.Window.{copies, windowed_table, windowed_tables, windowed}
use Rattle.fx_window.specs.declared.standing.Placed.{Placed}

later_unstuck : {A : Type 0} (before : ℕ) (e : End A) → e ≢ Stuck → later before e ≢ Stuck
later_unstuck before (Gives v t) unstuck = λ is. cc
later_unstuck before (Faults f t) unstuck = λ is. cc
later_unstuck before Stuck unstuck = unstuck
later_unstuck before More unstuck = λ is. cc

then_unstuck : {A B : Type 0} (e : End A) (next : A → End B) → e ≢ Stuck → ((v : A) → next v ≢ Stuck) → and_then e next ≢ Stuck
then_unstuck (Gives v t) next unstuck after = later_unstuck t (next v) (after v)
then_unstuck (Faults f t) next unstuck after = λ is. cc
then_unstuck Stuck next unstuck after = λ _. unstuck refl
then_unstuck More next unstuck after = λ is. cc

gives_unstuck : {A : Type 0} (v : A) → Gives v 0 ≢ Stuck
gives_unstuck v = λ is. cc

each_unstuck : {X Y : Type 0} (step : X → End (List Y)) (xs : List X) → AllByRecursion (λ x. step x ≢ Stuck) xs → flat_each step xs ≢ Stuck
each_unstuck step [] unstuck = gives_unstuck []
each_unstuck step (x ∷ xs) unstuck =
    then_unstuck (step x) (λ ys. and_then (flat_each step xs) (λ zs. Gives (ys ++ zs) 0)) unstuck.0
    (λ ys. then_unstuck (flat_each step xs) (λ zs. Gives (ys ++ zs) 0) (each_unstuck step xs unstuck.1) (λ zs. gives_unstuck (ys ++ zs)))

-- the row has a time, null or nothing in each of the three columns
abbrev pub HasTimes : Row → Type 0
HasTimes row = (time_of (get row (codes "_time")) ≢ Stuck) × (time_of (get row (codes "_start")) ≢ Stuck) × (time_of (get row (codes "_stop")) ≢ Stuck)

row_unstuck : (row : Row) → HasTimes row → placed_row row ≢ Stuck
row_unstuck row h =
    then_unstuck (stand_of row) (λ at. Gives (placed_by row at) 0)
    (then_unstuck (time_of (get row (codes "_time"))) (λ time. and_then (time_of (get row (codes "_start"))) (λ low. and_then (time_of (get row (codes "_stop"))) (λ high. Gives (stand_by time low high) 0))) h.0
    (λ time. then_unstuck (time_of (get row (codes "_start"))) (λ low. and_then (time_of (get row (codes "_stop"))) (λ high. Gives (stand_by time low high) 0)) h.1
    (λ low. then_unstuck (time_of (get row (codes "_stop"))) (λ high. Gives (stand_by time low high) 0) h.2 (λ high. gives_unstuck (stand_by time low high)))))
    (λ at. gives_unstuck (placed_by row at))

rows_unstuck : (rows : List Row) → AllByRecursion HasTimes rows → placed_rows rows ≢ Stuck
rows_unstuck rows h = each_unstuck placed_row rows (each_of HasTimes (λ row. placed_row row ≢ Stuck) row_unstuck rows h)

module _ (every period : Span) where
  table_unstuck : (t : Table) → AllByRecursion HasTimes t.rows → windowed_table every period t ≢ Stuck
  table_unstuck t h =
      then_unstuck (placed_rows t.rows) (λ (ps : List Placed). Gives (flat_map (copies every period t.key) ps) 0) (rows_unstuck t.rows h)
      (λ ps. gives_unstuck (flat_map (copies every period t.key) ps))

  -- `window` is not Stuck where each row has times, null or nothing in the three columns
  pub window_never_stuck : (place : Place) (tables : List Table) → EachRow HasTimes tables → windowed place every period tables ≢ Stuck
  unfolding windowed
  window_never_stuck place tables h =
      elim (are_lengths every period) as (λ b. ◌≢◌ {A = End (List Table)} (if b then and_then (windowed_tables every period tables) (λ rows. Gives (regrouped rows) 0)
      else Faults (record { kind = BadWindow; place = place }) 0) Stuck) [
        | true ↦ then_unstuck (windowed_tables every period tables) (λ rows. Gives (regrouped rows) 0)
            (each_unstuck (windowed_table every period) tables
            (each_of (λ t. AllByRecursion HasTimes t.rows) (λ t. windowed_table every period t ≢ Stuck) table_unstuck tables h))
            (λ rows. gives_unstuck (regrouped rows))
        | false ↦ λ is. cc
      ]

-- `cut` is not Stuck there either
pub cut_never_stuck : (every : Span) (all : Bool) (t : Table) → AllByRecursion HasTimes t.rows → cut_of every all t ≢ Stuck
unfolding cut_of
cut_never_stuck every all t h =
    then_unstuck (placed_rows t.rows) (λ (ps : List Placed). Gives (cut_by every all t.key ps (bounds_of ps)) 0) (rows_unstuck t.rows h)
    (λ ps. gives_unstuck (cut_by every all t.key ps (bounds_of ps)))
