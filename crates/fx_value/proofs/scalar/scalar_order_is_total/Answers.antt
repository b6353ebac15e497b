use Rattle.fx_value.proofs.Scalars.{scalar_cmp_total, scalar_same}
use Rattle.fx_value.proofs.scalar.scalar_order_is_total.Goals as goal

pub returns : goal.returns
returns c = record { total = scalar_cmp_total; ties = scalar_same }
