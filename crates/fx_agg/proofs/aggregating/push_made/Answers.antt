use Rattle.std.proofs.Common.{List, length, pos, sym, subst}
use Rattle.fx_group.specs.Answer.{Row}
use Rattle.fx_group.specs.Turned.{with_rows}
use Rattle.fx_value.specs.Calls.{Told}
use Rattle.fx_value.specs.Works.{into}
use Rattle.fx_agg.specs.Aggregate.{aggregated_table}
use Rattle.fx_agg.specs.Numbers.{whole, summed, spread_over}
use Rattle.fx_agg.specs.declared.agg.Agg.{Agg}
use Rattle.fx_agg.proofs.aggregating.push_made.Goals as goal

pub returns-in-Count : goal.returns-in-Count
returns-in-Count c =
    subst (λ (which : Agg). Told (into with_rows c.args.runs (aggregated_table c.args.place which c.args.column.now c.args.table)) c.push_one_row.result) (sym c.in-Count.is)
    (c.push_one_row.ensures (whole c.args.place (pos (length c.args.table.rows)))
    (subst (λ (rows : List Row). Told (whole c.args.place (pos (length rows))) c.count-count.result) c.as_slice.ensures c.count-count.ensures))

pub returns-in-Sum : goal.returns-in-Sum
returns-in-Sum c =
    subst (λ (which : Agg). Told (into with_rows c.args.runs (aggregated_table c.args.place which c.args.column.now c.args.table)) c.push_one_row-in-Sum.result) (sym c.in-Sum.is)
    (c.push_one_row-in-Sum.ensures (summed c.args.place c.args.column.now c.args.table.rows)
    (subst (λ (rows : List Row). Told (summed c.args.place c.args.column.now rows) c.sum-sum.result) c.as_slice-in-Sum.ensures c.sum-sum.ensures))

pub returns-in-Spread : goal.returns-in-Spread
returns-in-Spread c =
    subst (λ (which : Agg). Told (into with_rows c.args.runs (aggregated_table c.args.place which c.args.column.now c.args.table)) c.push_one_row-in-Spread.result) (sym c.in-Spread.is)
    (c.push_one_row-in-Spread.ensures (spread_over c.args.place c.args.column.now c.args.table.rows)
    (subst (λ (rows : List Row). Told (spread_over c.args.place c.args.column.now rows) c.spread-spread.result) c.as_slice-in-Spread.ensures c.spread-spread.ensures))
