use Rattle.std.proofs.Common.{◌≡◌, List, [], ◌∷◌, ◌++◌}
use Rattle.std.specs.List.{AllByRecursion}
use Rattle.fx_data.specs.Ascending.{Rise, NoneBelow, Ascend}
use Rattle.fx_data.specs.Gathered.{grouped}
use Rattle.fx_data.specs.Regrouped.{all_joined}
use Rattle.fx_data.specs.Table.{IsLawfulTable}
use Rattle.fx_data.specs.declared.table.Table.{Table}
use Rattle.fx_data.proofs.groups.with_neighbours_joined.Given as goal

abbrev pub invariant-loop-table : goal.invariant-loop-table
invariant-loop-table l = record {
  same : all_joined (grouped l.made.items) l.table-iterator.rest.items ≡ grouped l.fn.tables.items;
  order : Ascend l.table-iterator.rest.items;
  last : (front : List Table) (t : Table) → l.made.items ≡ front ++ t ∷ [] → NoneBelow t.key l.table-iterator.rest.items;
  rising : Rise l.made.items;
  made : AllByRecursion IsLawfulTable l.made.items;
  left : AllByRecursion IsLawfulTable l.table-iterator.rest.items;
}
