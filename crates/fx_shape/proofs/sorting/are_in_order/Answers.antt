use Rattle.std.proofs.Common.{arith}
use Rattle.fx_shape.proofs.InOrder.{in_order_still}
use Rattle.fx_shape.proofs.sorting.are_in_order.Goals as goal

pub returns : goal.returns
returns c = λ _. in_order_still c.args.desc c.args.columns.now c.args.rows.now (λ k d low high. c.loop-i.invariant k d (omega arith))
