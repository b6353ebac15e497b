use Rattle.std.proofs.Common.{ℕ, ◌<◌}
use Rattle.fx_unify.specs.Counted.{Counted}
use Rattle.fx_unify.specs.Decide.{Fixed}
use Rattle.fx_unify.specs.Measure.{least}
use Rattle.fx_unify.proofs.store.Store.check_fields.Given as goal

abbrev pub invariant-loop-slot : goal.invariant-loop-slot
invariant-loop-slot l =
    ((k : ℕ) × ((n : ℕ) → n < l.slot-index → Fixed (least l.self l.sorts) (λ s. s.field_of n) k)) × Counted l.self l.sorts l.counts
