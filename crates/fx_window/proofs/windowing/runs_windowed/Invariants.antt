use Rattle.std.proofs.Common.{◌≡◌, map}
use Rattle.std.specs.List.{flat_map, AllByRecursion}
use Rattle.fx_data.specs.Gathered.{grouped}
use Rattle.fx_data.specs.Regrouped.{alone}
use Rattle.fx_data.specs.Table.{IsLawfulTable}
use Rattle.fx_group.specs.Turned.{with_rows}
use Rattle.fx_window.specs.Plain.{copies_all}
use Rattle.fx_window.proofs.windowing.runs_windowed.Given as goal

abbrev pub invariant-loop-table : goal.invariant-loop-table
invariant-loop-table l = record {
  same : with_rows l.runs (flat_map (copies_all l.frame.every l.frame.period) l.table-iterator.rest.items) ≡ grouped (map alone (flat_map (copies_all l.frame.every l.frame.period) l.fn.tables));
  lawful : AllByRecursion IsLawfulTable l.table-iterator.rest.items;
}
