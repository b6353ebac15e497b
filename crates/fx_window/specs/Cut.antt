-- A table cut into windows.
use Rattle.std.specs.Prelude.{ℕ, ℤ, pos, ◌+ℤ◌, ◌-ℤ◌, int_lt, Bool, List, [], ◌∷◌, map, length, Option, None, Some, if◌then◌else◌}
use Rattle.std.specs.Int.{int_min, int_max}
use Rattle.std.specs.List.{flat_map}
use Rattle.fx_time.specs.Windows.{last_started, last_stopped}
use Rattle.fx_time.specs.declared.span.Span.{Span}
use Rattle.fx_value.specs.Ends.{End, Gives, and_then}
use Rattle.fx_data.specs.Regrouped.{regrouped_with}
use Rattle.fx_data.specs.declared.key.Key.{Key}
use Rattle.fx_data.specs.declared.table.Table.{Table}
use Rattle.fx_group.specs.RangeRows.{bounded_key}
use Rattle.fx_window.specs.Clip.{raised, lowered}
use Rattle.fx_window.specs.Numbers.{numbers}
use Rattle.fx_window.specs.Standing.{placed_rows}
use Rattle.fx_window.specs.Window.{copies}
use Rattle.fx_window.specs.declared.cutting.Bounds.{Bounds}
use Rattle.fx_window.specs.declared.cutting.CutTable.{CutTable}
use Rattle.fx_window.specs.declared.standing.Placed.{Placed}

abbrev pub own_bounds : Placed → Bounds
own_bounds p = record { start = p.at.low; stop = p.at.high }

-- bounds, made wide enough for those of rows
abbrev pub widest : Bounds → List Placed → Bounds
widest b [] = b
widest b (p ∷ ps) = widest (record { start = int_min b.start p.at.low; stop = int_max b.stop p.at.high }) ps

-- the least start and the greatest stop that rows have, None without rows
abbrev pub bounds_of : List Placed → Option Bounds
bounds_of [] = None
bounds_of (p ∷ ps) = Some (widest (own_bounds p) ps)

-- the row with these bounds in place of its own
abbrev pub within : Bounds → Placed → Placed
within b p = record { at = record { time = p.at.time; low = b.start; high = b.stop }; row = p.row }

-- the numbers of the windows that hold a moment at or after the start and before the stop
abbrev pub windows_between : Span → Bounds → List ℤ
windows_between every b =
    if int_lt b.start b.stop then numbers (last_stopped every every b.start +ℤ pos 1) (last_started every (b.stop -ℤ pos 1) +ℤ pos 1) else []

-- the key of window k, clipped
abbrev pub window_key : Span → Bounds → Key → ℤ → Key
window_key every b key k = bounded_key (raised every b.start k) (lowered every every b.stop k) key

-- with `all` each of these windows is there, else those in which rows are
abbrev pub windows_of : Span → Bool → Bounds → Key → List Placed → List Table
windows_of every all b key ps =
    regrouped_with (flat_map (λ p. copies every every key (within b p)) ps) (if all then map (window_key every b key) (windows_between every b) else [])

abbrev pub cut_by : Span → Bool → Key → List Placed → Option Bounds → CutTable
cut_by every all key ps None = record { start = pos 0; stop = pos 0; windows = [] }
cut_by every all key ps (Some b) = record { start = b.start; stop = b.stop; windows = windows_of every all b key ps }

-- `cut`: the windows of a table between its bounds, in their order
unfoldable pub cut_of : Span → Bool → Table → End CutTable
cut_of every all t = and_then (placed_rows t.rows) (λ ps. Gives (cut_by every all t.key ps (bounds_of ps)) 0)

-- how many windows it makes
abbrev pub cut_size : Span → Bool → Table → End ℕ
cut_size every all t = and_then (cut_of every all t) (λ parts. Gives (length parts.windows) 0)
