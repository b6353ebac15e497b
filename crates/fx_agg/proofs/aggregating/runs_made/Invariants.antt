use Rattle.std.proofs.Common.{◌≡◌}
use Rattle.std.specs.FinMap as fin
use Rattle.std.specs.List.{AllByRecursion}
use Rattle.fx_data.specs.Table.{IsLawfulTable}
use Rattle.fx_group.specs.Turned.{with_rows}
use Rattle.fx_value.specs.Works.{flat_each, into}
use Rattle.fx_agg.specs.Aggregate.{aggregated_table, aggregated_tables}
use Rattle.fx_agg.proofs.aggregating.runs_made.Given as goal

abbrev pub invariant-loop-table : goal.invariant-loop-table
invariant-loop-table l = record {
  same : into with_rows fin.empty (aggregated_tables l.place l.which l.column l.fn.tables)
      ≡ into with_rows l.runs (flat_each (aggregated_table l.place l.which l.column) l.table-iterator.rest.items);
  lawful : AllByRecursion IsLawfulTable l.table-iterator.rest.items;
}
