use Rattle.std.proofs.Common.{◌≡◌, ℕ, false}
use Rattle.std.specs.Prelude.{slice_index_or}
use Rattle.fx_unify.proofs.counts.unknown.Given as goal

abbrev pub invariant-loop-row : goal.invariant-loop-row
invariant-loop-row l = (r : ℕ) → slice_index_or l.rows.items r false ≡ false
