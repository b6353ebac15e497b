-- Tables cut into windows, of which something is made.
use Rattle.std.specs.Prelude.{Bool, List, if◌then◌else◌}
use Rattle.fx_base.specs.declared.fault.FaultKind.TheVariants.{BadWindow}
use Rattle.fx_base.specs.declared.place.Place.{Place}
use Rattle.fx_time.specs.declared.span.Span.{Span}
use Rattle.fx_value.specs.Ends.{End, Gives, Faults, and_then}
use Rattle.fx_value.specs.Works.{flat_each}
use Rattle.fx_data.specs.Regrouped.{regrouped}
use Rattle.fx_data.specs.declared.keyed_row.KeyedRow.{KeyedRow}
use Rattle.fx_data.specs.declared.table.Table.{Table}
use Rattle.fx_window.specs.Cut.{cut_of}
use Rattle.fx_window.specs.Lengths.{is_length}
use Rattle.fx_window.specs.Uncut.{uncut_of}

-- the rows that come of a table: it is cut, the aggregate is applied to its windows, and these are put together again
abbrev pub aggregated_cut : (List Table → End (List Table)) → Span → Bool → Table → End (List KeyedRow)
aggregated_cut aggregate every all t =
    and_then (cut_of every all t) (λ parts. and_then (aggregate parts.windows) (λ made. uncut_of (record { start = parts.start; stop = parts.stop; windows = made })))

-- `aggregateWindow`, for any aggregate: the rows of all tables, regrouped
unfoldable pub window_aggregated : Place → (List Table → End (List Table)) → Span → Bool → List Table → End (List Table)
window_aggregated place aggregate every all tables =
    if is_length every then and_then (flat_each (aggregated_cut aggregate every all) tables) (λ rows. Gives (regrouped rows) 0)
    else Faults (record { kind = BadWindow; place = place }) 0
