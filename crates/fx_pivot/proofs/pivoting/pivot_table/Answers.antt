use Rattle.std.proofs.Common.{◌≡◌, List, map, sym, ap, subst, ◌∙◌, rules}
use Rattle.std.specs.Prelude.{Err}
use Rattle.fx_data.specs.Table.{HasRisingLabels}
use Rattle.fx_data.specs.declared.key.Key.{Key}
use Rattle.fx_group.specs.Answer.{Row}
use Rattle.fx_group.specs.Turned.{with_rows}
use Rattle.fx_value.specs.Calls.{Told}
use Rattle.fx_value.specs.Works.{into}
use Rattle.fx_pivot.specs.Pivot.{pivot_key, keyed, pivoted_table}
use Rattle.fx_pivot.proofs.Pivoted.{cells_unstuck, table_gives, table_stops, pivot_key_rises}
use Rattle.fx_pivot.proofs.pivoting.pivot_table.Goals as goal

pub cells_of-requires : goal.cells_of-requires
cells_of-requires c = cells_unstuck c.args.place c.args.rows.now c.args.columns.now c.args.value.now c.args.runs c.args.table c.requires.unstuck

pub returns-in_err-cells : goal.returns-in_err-cells
returns-in_err-cells c =
    let why = c.in_err-cells.field-0.0 in
    let same : c.from_residual.result ≡ Err c.in_err-cells.field-0.0 = search rules in
    subst (Told (into with_rows c.args.runs (pivoted_table c.args.place c.args.rows.now c.args.columns.now c.args.value.now c.args.table))) (sym same)
    (table_stops c.args.place c.args.rows.now c.args.columns.now c.args.value.now c.args.runs c.args.table why c.in_err-cells.ensures)

pub push_rows-requires : goal.push_rows-requires
push_rows-requires c = subst (λ (key : Key). HasRisingLabels key) (sym c.in_ok-key.ensures) (pivot_key_rises c.args.rows.now c.args.table.key c.requires.rising)

pub returns : goal.returns
returns c =
    table_gives c.args.place c.args.rows.now c.args.columns.now c.args.value.now c.args.runs c.args.table c.in_ok-cells.cells c.in_ok-longer.longer c.in_ok-cells.ensures
    (c.in_ok-longer.ensures ∙ ap (λ (key : Key). with_rows c.args.runs (map (keyed key) c.in_ok-made.made)) c.in_ok-key.ensures
    ∙ ap (λ (rows : List Row). with_rows c.args.runs (map (keyed (pivot_key c.args.rows.now c.args.table.key)) rows)) c.in_ok-made.ensures)
