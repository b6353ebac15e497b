use Rattle.std.proofs.Common.{◌≡◌, map}
use Rattle.std.specs.List.{flat_map, AllByRecursion}
use Rattle.fx_data.specs.Gathered.{grouped}
use Rattle.fx_data.specs.Regrouped.{alone}
use Rattle.fx_data.specs.Table.{IsLawfulTable}
use Rattle.fx_group.specs.Turned.{with_rows}
use Rattle.fx_shape.specs.Changed.{rows_after}
use Rattle.fx_shape.specs.Columns.{doubled}
use Rattle.fx_shape.proofs.doubling.runs_doubled.Given as goal

abbrev pub invariant-loop-table : goal.invariant-loop-table
invariant-loop-table l = record {
  same : with_rows l.runs (flat_map (rows_after (λ key. key) (doubled l.doubling.from l.doubling.to)) l.table-iterator.rest.items)
      ≡ grouped (map alone (flat_map (rows_after (λ key. key) (doubled l.doubling.from l.doubling.to)) l.fn.tables));
  lawful : AllByRecursion IsLawfulTable l.table-iterator.rest.items;
}
