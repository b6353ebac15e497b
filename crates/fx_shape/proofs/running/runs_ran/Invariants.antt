use Rattle.std.proofs.Common.{◌≡◌}
use Rattle.std.specs.FinMap as fin
use Rattle.std.specs.List.{AllByRecursion}
use Rattle.fx_data.specs.Table.{IsLawfulTable}
use Rattle.fx_group.specs.Turned.{with_rows}
use Rattle.fx_value.specs.Works.{flat_each, into}
use Rattle.fx_shape.specs.Outcome.{come_to, made_of, number_of}
use Rattle.fx_shape.specs.Running.{ran_table, ran_tables}
use Rattle.fx_shape.proofs.running.runs_ran.Given as goal

abbrev pub invariant-loop-table : goal.invariant-loop-table
invariant-loop-table l = record {
  same : into with_rows fin.empty (ran_tables (come_to l.which) (λ row. number_of l.which (fin.get row l.read)) (made_of l.which l.place l.column) l.fn.tables)
      ≡ into with_rows l.runs (flat_each (ran_table (come_to l.which) (λ row. number_of l.which (fin.get row l.read)) (made_of l.which l.place l.column)) l.table-iterator.rest.items);
  lawful : AllByRecursion IsLawfulTable l.table-iterator.rest.items;
}
