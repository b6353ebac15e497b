use Rattle.std.proofs.Common.{◌≡◌, ◌∷◌, map}
use Rattle.std.specs.List.{AllByRecursion}
use Rattle.fx_data.specs.Table.{IsLawfulTable}
use Rattle.fx_pivot.specs.Pivot.{based}
use Rattle.fx_pivot.proofs.pivoting.collected.Given as goal

abbrev pub invariant-loop-table : goal.invariant-loop-table
invariant-loop-table l = record {
  tables : l.all.items ≡ map (based (l.value ∷ l.columns)) l.yielded;
  made : AllByRecursion IsLawfulTable l.all.items;
  left : AllByRecursion IsLawfulTable l.table-iterator.rest.items;
}
