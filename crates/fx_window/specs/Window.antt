-- Rows in windows.
use Rattle.std.specs.Prelude.{ℤ, pos, ◌+ℤ◌, int_le, int_lt, ◌&&◌, List, [], ◌∷◌, if◌then◌else◌}
use Rattle.std.specs.List.{flat_map}
use Rattle.fx_base.specs.declared.fault.FaultKind.TheVariants.{BadWindow}
use Rattle.fx_base.specs.declared.place.Place.{Place}
use Rattle.fx_time.specs.Windows.{last_started, last_stopped}
use Rattle.fx_time.specs.declared.span.Span.{Span}
use Rattle.fx_value.specs.Ends.{End, Gives, Faults, and_then}
use Rattle.fx_value.specs.Works.{flat_each}
use Rattle.fx_data.specs.Regrouped.{regrouped}
use Rattle.fx_data.specs.declared.key.Key.{Key}
use Rattle.fx_data.specs.declared.keyed_row.KeyedRow.{KeyedRow}
use Rattle.fx_data.specs.declared.table.Table.{Table}
use Rattle.fx_group.specs.RangeRows.{set_row}
use Rattle.fx_window.specs.Clip.{raised, lowered}
use Rattle.fx_window.specs.Lengths.{are_lengths}
use Rattle.fx_window.specs.Numbers.{numbers}
use Rattle.fx_window.specs.Standing.{placed_rows}
use Rattle.fx_window.specs.declared.standing.Placed.{Placed}

-- the row with these times as columns `_start` and `_stop`, also of the key, where its own time lies between them
abbrev pub copy_between : ℤ → ℤ → Key → Placed → List KeyedRow
copy_between start stop key p = if int_le start p.at.time && int_lt p.at.time stop then set_row start stop key p.row ∷ [] else []

-- the row in window k, between the bounds that the row has
abbrev pub copy_in : Span → Span → Key → Placed → ℤ → List KeyedRow
copy_in every period key p k = copy_between (raised every p.at.low k) (lowered every period p.at.high k) key p

-- the row in each of the windows that hold its time: those that stop after it and start no later
abbrev pub copies : Span → Span → Key → Placed → List KeyedRow
copies every period key p =
    flat_map (copy_in every period key p) (numbers (last_stopped every period p.at.time +ℤ pos 1) (last_started every p.at.time +ℤ pos 1))

abbrev pub windowed_table : Span → Span → Table → End (List KeyedRow)
windowed_table every period t = and_then (placed_rows t.rows) (λ ps. Gives (flat_map (copies every period t.key) ps) 0)

abbrev pub windowed_tables : Span → Span → List Table → End (List KeyedRow)
windowed_tables every period tables = flat_each (windowed_table every period) tables

-- `window`: the rows in their windows, regrouped
unfoldable pub windowed : Place → Span → Span → List Table → End (List Table)
windowed place every period tables =
    if are_lengths every period then and_then (windowed_tables every period tables) (λ rows. Gives (regrouped rows) 0)
    else Faults (record { kind = BadWindow; place = place }) 0
