use Rattle.std.proofs.Common.{◌≡◌, map}
use Rattle.std.specs.List.{flat_map, AllByRecursion}
use Rattle.fx_data.specs.Gathered.{grouped}
use Rattle.fx_data.specs.Regrouped.{alone}
use Rattle.fx_data.specs.Table.{IsLawfulTable}
use Rattle.fx_group.specs.Turned.{with_rows}
use Rattle.fx_agg.specs.Distinct.{distinct_rows}
use Rattle.fx_agg.proofs.differing.runs_differing.Given as goal

abbrev pub invariant-loop-table : goal.invariant-loop-table
invariant-loop-table l = record {
  same : with_rows l.runs (flat_map (distinct_rows l.column) l.table-iterator.rest.items) ≡ grouped (map alone (flat_map (distinct_rows l.column) l.fn.tables));
  lawful : AllByRecursion IsLawfulTable l.table-iterator.rest.items;
}
