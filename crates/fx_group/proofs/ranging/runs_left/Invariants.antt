use Rattle.std.proofs.Common.{◌≡◌}
use Rattle.std.specs.List.{flat_map, AllByRecursion}
use Rattle.fx_data.specs.Gathered.{grouped}
use Rattle.fx_data.specs.Regrouped.{all_joined}
use Rattle.fx_data.specs.Table.{IsLawfulTable}
use Rattle.fx_group.specs.Bounds.{table_left}
use Rattle.fx_group.proofs.ranging.runs_left.Given as goal

abbrev pub invariant-loop-table : goal.invariant-loop-table
invariant-loop-table l = record {
  same : all_joined l.runs (flat_map (table_left l.bounds.start l.bounds.stop) l.table-iterator.rest.items) ≡ grouped (flat_map (table_left l.bounds.start l.bounds.stop) l.fn.tables);
  lawful : AllByRecursion IsLawfulTable l.table-iterator.rest.items;
}
