use Rattle.fx_data.specs.Table.{HasRisingLabels}
use Rattle.fx_bench.proofs.rows.key_of.Given as goal

abbrev pub invariant-loop-label : goal.invariant-loop-label
invariant-loop-label l = HasRisingLabels l.key
