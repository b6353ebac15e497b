use Rattle.std.proofs.Common.{◌≡◌}
use Rattle.fx_types.specs.Instance.{Solution}
use Rattle.fx_types.specs.Shape.{term}
use Rattle.fx_unify.specs.Least.{Leads}
use Rattle.fx_unify.specs.Part.{p_is, value, Solved}
use Rattle.fx_unify.specs.Store.{entry}
use Rattle.fx_unify.proofs.store.Store.head.Given as goal

abbrev pub invariant-loop-step : goal.invariant-loop-step
invariant-loop-step l =
    ((s : Solution) → Solved s (entry l.self) → value s (p_is (term l.current)) ≡ value s (p_is (term l.fn.ty)))
    × Leads (entry l.self) (p_is (term l.fn.ty)) (p_is (term l.current))
