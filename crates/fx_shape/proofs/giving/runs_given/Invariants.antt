use Rattle.std.proofs.Common.{◌≡◌, map}
use Rattle.std.specs.List.{flat_map, AllByRecursion}
use Rattle.fx_data.specs.Gathered.{grouped}
use Rattle.fx_data.specs.Regrouped.{alone}
use Rattle.fx_data.specs.Table.{IsLawfulTable}
use Rattle.fx_group.specs.Turned.{with_rows}
use Rattle.fx_shape.specs.Changed.{rows_after}
use Rattle.fx_shape.specs.Content.{given}
use Rattle.fx_shape.proofs.giving.runs_given.Given as goal

abbrev pub invariant-loop-table : goal.invariant-loop-table
invariant-loop-table l = record {
  same : with_rows l.runs (flat_map (rows_after (λ key. key) (given l.content l.label)) l.table-iterator.rest.items)
      ≡ grouped (map alone (flat_map (rows_after (λ key. key) (given l.content l.label)) l.fn.tables));
  lawful : AllByRecursion IsLawfulTable l.table-iterator.rest.items;
}
