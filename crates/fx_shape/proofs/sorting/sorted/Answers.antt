use Rattle.fx_shape.proofs.InOrder.{in_order_by_few}
use Rattle.fx_shape.proofs.sorting.sorted.Goals as goal

pub returns-in-empty : goal.returns-in-empty
returns-in-empty c = in_order_by_few c.args.desc c.args.columns.now c.args.rows c.in-empty.len_below
