use Rattle.std.proofs.Common.{◌≡◌, ◌++◌}
use Rattle.fx_data.specs.Table.{AreLawful}
use Rattle.fx_shape.specs.Cut.{cut}
use Rattle.fx_shape.specs.Part.{parts_of}
use Rattle.fx_shape.proofs.part.cut_tables.Given as goal

abbrev pub invariant-loop-table : goal.invariant-loop-table
invariant-loop-table l = record {
  same : l.left.items ++ parts_of (cut l.part) l.table-iterator.rest.items ≡ parts_of (cut l.part) l.fn.tables;
  lawful : AreLawful (l.left.items ++ l.table-iterator.rest.items);
}
