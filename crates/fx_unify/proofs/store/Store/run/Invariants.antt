use Rattle.std.proofs.Common.{◌↔◌}
use Rattle.fx_types.specs.Instance.{Solution}
use Rattle.fx_unify.specs.Work.{Holds}
use Rattle.fx_unify.proofs.store.Store.run.Given as goal

abbrev pub invariant-loop-step : goal.invariant-loop-step
invariant-loop-step l = (s : Solution) → Holds s l.self ↔ Holds s l.initial.self
