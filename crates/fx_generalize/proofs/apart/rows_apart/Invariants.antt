use Rattle.std.proofs.Common.{◌<◌, ℕ, slice_index}
use Rattle.fx_generalize.specs.Named.{IsUnnamedRow}
use Rattle.fx_generalize.proofs.apart.rows_apart.Given as goal

abbrev pub invariant-loop-row : goal.invariant-loop-row
invariant-loop-row l = (k : ℕ) → k < l.row-index → IsUnnamedRow l.names (slice_index l.rows k)
