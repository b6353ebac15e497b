use Rattle.std.proofs.Common.{◌≡◌}
use Rattle.std.specs.List.{AllByRecursion}
use Rattle.fx_data.specs.Table.{IsLawfulTable}
use Rattle.fx_shape.specs.Rename.{key_renamed, row_renamed}
use Rattle.fx_shape.specs.Renamed.{all_moved_to, tables_moved}
use Rattle.fx_shape.proofs.renaming.runs_renamed.Given as goal

abbrev pub invariant-loop-table : goal.invariant-loop-table
invariant-loop-table l = record {
  same : all_moved_to (key_renamed l.olds l.news) (row_renamed l.olds l.news) l.runs l.table-iterator.rest.items ≡ tables_moved (key_renamed l.olds l.news) (row_renamed l.olds l.news) l.fn.tables;
  lawful : AllByRecursion IsLawfulTable l.table-iterator.rest.items;
}
