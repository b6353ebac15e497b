use Rattle.std.proofs.Common.{◌≡◌, ◌++◌, map}
use Rattle.fx_data.specs.Table.{AreLawful}
use Rattle.fx_shape.specs.Sort.{table_sorted}
use Rattle.fx_shape.proofs.sorting.tables_sorted.Given as goal

abbrev pub invariant-loop-table : goal.invariant-loop-table
invariant-loop-table l = record {
  same : l.made.items ++ map (table_sorted l.columns l.desc) l.table-iterator.rest.items ≡ map (table_sorted l.columns l.desc) l.fn.tables;
  lawful : AreLawful (l.made.items ++ l.table-iterator.rest.items);
}
