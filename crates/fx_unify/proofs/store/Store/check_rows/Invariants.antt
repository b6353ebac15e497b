use Rattle.std.proofs.Common.{ℕ, ◌<◌}
use Rattle.fx_unify.specs.Counted.{Counted}
use Rattle.fx_unify.specs.Decide.{FixedRow}
use Rattle.fx_unify.specs.Measure.{least}
use Rattle.fx_unify.proofs.store.Store.check_rows.Given as goal

abbrev pub invariant-loop-number : goal.invariant-loop-number
invariant-loop-number l =
    ((k : ℕ) × ((r : ℕ) → r < l.number → FixedRow (least l.self l.sorts) (λ s. s.row_of r) k)) × Counted l.self l.sorts l.counts
