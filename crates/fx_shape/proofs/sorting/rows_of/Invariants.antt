use Rattle.std.proofs.Common.{◌≡◌, ◌++◌, map}
use Rattle.fx_shape.proofs.sorting.rows_of.Given as goal

abbrev pub invariant-loop-item : goal.invariant-loop-item
invariant-loop-item l = l.rows.items ++ map (λ r. r.row) l.item-iterator.rest.items ≡ map (λ r. r.row) l.fn.items.items
