use Rattle.std.proofs.Common.{◌≡◌, false}
use Rattle.std.specs.List.{AllAdjacentBelow}
use Rattle.fx_shape.proofs.InOrder.{row_before}
use Rattle.fx_shape.proofs.sorting.are_in_order.Given as goal

abbrev pub invariant-loop-i : goal.invariant-loop-i
invariant-loop-i l = AllAdjacentBelow (λ a b. row_before l.desc l.columns b a ≡ false) l.rows l.i
