use Rattle.std.proofs.Common.{◌≡◌, drop}
use Rattle.fx_shape.specs.Sort.{rows_cmp}
use Rattle.fx_shape.proofs.sorting.rows_order.Given as goal

abbrev pub invariant-loop-column : goal.invariant-loop-column
invariant-loop-column l = rows_cmp l.columns l.a l.b ≡ rows_cmp (drop l.column-index l.columns) l.a l.b
