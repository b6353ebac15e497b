use Rattle.std.proofs.Common.{◌≡◌, ℕ, None}
use Rattle.std.specs.Prelude.{slice_index_or}
use Rattle.fx_unify.proofs.counts.uncounted.Given as goal

abbrev pub invariant-loop-variable : goal.invariant-loop-variable
invariant-loop-variable l = (v : ℕ) → slice_index_or l.types.items v None ≡ None
