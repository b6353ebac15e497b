use Rattle.std.proofs.Common.{◌≡◌, ◌++◌, map}
use Rattle.fx_shape.specs.Ranked.{ranked}
use Rattle.fx_shape.proofs.sorting.ranked_rows.Given as goal

abbrev pub invariant-loop-row : goal.invariant-loop-row
invariant-loop-row l = l.items.items ++ map (ranked l.column) l.row-iterator.rest.items ≡ map (ranked l.column) l.fn.rows
