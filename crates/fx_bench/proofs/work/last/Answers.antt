use Rattle.fx_group.proofs.Unstuck.{every_row}
use Rattle.fx_agg.specs.declared.agg.Agg.TheVariants.{Last}
use Rattle.fx_agg.proofs.Unstuck.{Asks, aggregate_never_stuck}
use Rattle.fx_bench.proofs.work.last.Goals as goal

pub aggregate-requires : goal.aggregate-requires
aggregate-requires c =
    aggregate_never_stuck _ c.in_ok-column.column Last c.args.tables (every_row (Asks Last c.in_ok-column.column) (λ row. tt) c.args.tables)
