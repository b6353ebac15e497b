use Rattle.std.proofs.Common.{sym, subst}
use Rattle.fx_data.specs.Table.{HasRisingLabels}
use Rattle.fx_data.specs.declared.key.Key.{Key}
use Rattle.fx_agg.proofs.Reduced.{all_pinned_rises}
use Rattle.fx_agg.proofs.reducing.push_reduced.Goals as goal

pub push-requires : goal.push-requires
push-requires c = subst (λ (key : Key). HasRisingLabels key) (sym c.in_ok-key.ensures) (all_pinned_rises c.args.key c.requires)
