use Rattle.std.proofs.Common.{◌≡◌}
use Rattle.std.specs.FinMap as fin
use Rattle.std.specs.List.{AllByRecursion}
use Rattle.fx_data.specs.Table.{IsLawfulTable}
use Rattle.fx_group.specs.Turned.{with_rows}
use Rattle.fx_value.specs.Works.{into}
use Rattle.fx_pivot.specs.Pivot.{pivoted_tables}
use Rattle.fx_pivot.proofs.pivoting.pivot_tables.Given as goal

abbrev pub invariant-loop-table : goal.invariant-loop-table
invariant-loop-table l = record {
  same : into with_rows fin.empty (pivoted_tables l.place l.rows l.columns l.value l.fn.tables)
      ≡ into with_rows l.runs (pivoted_tables l.place l.rows l.columns l.value l.table-iterator.rest.items);
  lawful : AllByRecursion IsLawfulTable l.table-iterator.rest.items;
}
