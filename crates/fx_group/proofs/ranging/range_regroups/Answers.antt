use Rattle.fx_group.proofs.RangeRows.{range_regroups}
use Rattle.fx_group.proofs.ranging.range_regroups.Goals as goal

pub returns : goal.returns
returns c = λ start stop tables lawful unstuck. range_regroups start stop tables lawful unstuck
