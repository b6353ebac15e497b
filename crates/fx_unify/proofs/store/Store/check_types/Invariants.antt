use Rattle.std.proofs.Common.{ℕ, ◌<◌}
use Rattle.fx_types.specs.Ground.{g_is}
use Rattle.fx_unify.specs.Counted.{Counted}
use Rattle.fx_unify.specs.Decide.{Fixed}
use Rattle.fx_unify.specs.Measure.{least}
use Rattle.fx_unify.proofs.store.Store.check_types.Given as goal

abbrev pub invariant-loop-variable : goal.invariant-loop-variable
invariant-loop-variable l =
    ((k : ℕ) × ((n : ℕ) → n < l.variable → Fixed (least l.self l.sorts) (λ s. g_is (s.type_of n)) k)) × Counted l.self l.sorts l.counts
