-- Rows in windows where nothing is Stuck, as the code goes over them.
use Rattle.std.specs.Prelude.{◌≡◌, ℤ, pos, List, [], ◌∷◌, map, Option, None, Some, codes}
use Rattle.std.specs.FinMap.{get, insert}
use Rattle.std.specs.Int.{int_min, int_max}
use Rattle.std.specs.List.{flat_map}
use Rattle.fx_time.specs.Windows.{IsWindowPair}
use Rattle.fx_time.specs.declared.span.Span.{Span}
use Rattle.fx_value.specs.declared.scalar.Scalar.{Scalar}
use Rattle.fx_value.specs.declared.scalar.Scalar.TheVariants.{Time}
use Rattle.fx_data.specs.declared.key.Key.{Key}
use Rattle.fx_data.specs.declared.keyed_row.KeyedRow.{KeyedRow}
use Rattle.fx_data.specs.declared.table.Table.{Table}
use Rattle.fx_group.specs.Answer.{Row}
use Rattle.fx_window.specs.Cut.{own_bounds}
use Rattle.fx_window.specs.Standing.{stand_by, placed_by}
use Rattle.fx_window.specs.Uncut.{uncut_row, value_in}
use Rattle.fx_window.specs.Window.{copies}
use Rattle.fx_window.specs.declared.cutting.Bounds.{Bounds}
use Rattle.fx_window.specs.declared.standing.Frame.{Frame}
use Rattle.fx_window.specs.declared.standing.Labels.{Labels}
use Rattle.fx_window.specs.declared.standing.Placed.{Placed}
use Rattle.fx_window.specs.declared.standing.Stand.{Stand}

-- the engine's labels
pub record AreLabels (l : Labels) : Type 0 where
  pub time : l.time ≡ codes "_time"
  pub start : l.start ≡ codes "_start"
  pub stop : l.stop ≡ codes "_stop"

-- lengths of windows, and these labels
pub record IsFrame (f : Frame) : Type 0 where
  pub pair : IsWindowPair f.every f.period
  pub labels : AreLabels f.labels

-- a time for itself, and any other value for none
abbrev pub time_in : Option Scalar → Option ℤ
time_in (Some (Time t)) = Some t
time_in value = None

abbrev pub stand_in : Row → Option Stand
stand_in row = stand_by (time_in (get row (codes "_time"))) (time_in (get row (codes "_start"))) (time_in (get row (codes "_stop")))

abbrev pub placed_in : Row → List Placed
placed_in row = placed_by row (stand_in row)

abbrev pub placed_all : List Row → List Placed
placed_all rows = flat_map placed_in rows

-- the rows of a table in their windows
abbrev pub copies_all : Span → Span → Table → List KeyedRow
copies_all every period t = flat_map (copies every period t.key) (placed_all t.rows)

-- ---- bounds

-- bounds, made wide enough for those of one more row
abbrev pub wider : Option Bounds → Placed → Bounds
wider None p = own_bounds p
wider (Some b) p = record { start = int_min b.start p.at.low; stop = int_max b.stop p.at.high }

-- and for those of more rows
abbrev pub bounds_after : Option Bounds → List Placed → Option Bounds
bounds_after bounds [] = bounds
bounds_after bounds (p ∷ ps) = bounds_after (Some (wider bounds p)) ps

-- ---- windows put together again

-- the time under `_stop` of a key, where there is one
abbrev pub stop_from : Option Scalar → ℤ
stop_from (Some (Time t)) = t
stop_from value = pos 0

abbrev pub stop_in : Key → ℤ
stop_in key = stop_from (value_in key (codes "_stop"))

-- the row at the stop of its window, with the bounds of the whole
abbrev pub uncut_set : ℤ → ℤ → ℤ → Row → Row
uncut_set start stop time row = insert (insert (insert row (codes "_time") (Time time)) (codes "_start") (Time start)) (codes "_stop") (Time stop)

abbrev pub uncut_all : ℤ → ℤ → Table → List KeyedRow
uncut_all start stop t = map (uncut_row start stop t.key (stop_in t.key)) t.rows
