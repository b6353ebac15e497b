use Rattle.std.proofs.Common.{sym, subst}
use Rattle.fx_data.specs.Table.{HasRisingLabels}
use Rattle.fx_data.specs.declared.key.Key.{Key}
use Rattle.fx_data.proofs.Columns.{key_with_rises}
use Rattle.fx_value.specs.declared.scalar.Scalar.TheVariants.{Null}
use Rattle.fx_bench.proofs.Always.{nothing_rises}
use Rattle.fx_bench.proofs.rows.key_of.Goals as goal

pub loop-label-init : goal.loop-label-init
loop-label-init c = nothing_rises c.empty.result c.empty.ensures

pub loop-label-preserved : goal.loop-label-preserved
loop-label-preserved c = subst (λ (k : Key). HasRisingLabels k) (sym c.in_ok-key.ensures) (key_with_rises c.loop-label.key _ Null c.loop-label.invariant)
