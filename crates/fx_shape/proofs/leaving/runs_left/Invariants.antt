use Rattle.std.proofs.Common.{◌≡◌, map}
use Rattle.std.specs.List.{AllByRecursion}
use Rattle.fx_data.specs.Gathered.{grouped}
use Rattle.fx_data.specs.Regrouped.{all_joined}
use Rattle.fx_data.specs.Table.{IsLawfulTable}
use Rattle.fx_shape.specs.Keep.{table_left}
use Rattle.fx_shape.specs.Naming.{stays}
use Rattle.fx_shape.proofs.leaving.runs_left.Given as goal

abbrev pub invariant-loop-table : goal.invariant-loop-table
invariant-loop-table l = record {
  same : all_joined l.runs (map (table_left (stays l.naming)) l.table-iterator.rest.items) ≡ grouped (map (table_left (stays l.naming)) l.fn.tables);
  lawful : AllByRecursion IsLawfulTable l.table-iterator.rest.items;
}
