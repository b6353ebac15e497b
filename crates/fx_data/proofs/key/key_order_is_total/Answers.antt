use Rattle.fx_data.proofs.Keys.{key_cmp_total, key_same}
use Rattle.fx_data.proofs.key.key_order_is_total.Goals as goal

pub returns : goal.returns
returns c = record { total = key_cmp_total; ties = key_same }
