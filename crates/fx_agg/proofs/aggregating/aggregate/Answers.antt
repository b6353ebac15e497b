use Rattle.std.proofs.Common.{◌≡◌, sym, subst, rules}
use Rattle.std.specs.Prelude.{Err}
use Rattle.fx_value.specs.Calls.{Told}
use Rattle.fx_agg.specs.Aggregate.{aggregated}
use Rattle.fx_agg.proofs.Made.{aggregate_unstuck, aggregate_gives, aggregate_stops}
use Rattle.fx_agg.proofs.aggregating.aggregate.Goals as goal

pub runs_made-requires : goal.runs_made-requires
runs_made-requires c = aggregate_unstuck c.args.place c.args.which c.args.column.now c.args.tables c.requires

pub returns-in_err-runs : goal.returns-in_err-runs
returns-in_err-runs c =
    let same : c.from_residual.result ≡ Err c.in_err-runs.field-0.0 = search rules in
    subst (Told (aggregated c.args.place c.args.which c.args.column.now c.args.tables)) (sym same)
    (aggregate_stops c.args.place c.args.which c.args.column.now c.args.tables c.in_err-runs.field-0.0 c.in_err-runs.ensures)

pub returns : goal.returns
returns c =
    aggregate_gives c.args.place c.args.which c.args.column.now c.args.tables c.in_ok-runs.runs c.in_ok-made.made c.in_ok-runs.ensures c.in_ok-made.ensures
