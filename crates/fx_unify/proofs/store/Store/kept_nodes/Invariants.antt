use Rattle.std.proofs.Common.{◌≡◌}
use Rattle.fx_types.specs.Instance.{Solution}
use Rattle.fx_types.specs.Term.{type_variable}
use Rattle.fx_unify.specs.Least.{Leads}
use Rattle.fx_unify.specs.Part.{p_is, value, Solved}
use Rattle.fx_unify.specs.Store.{entry}
use Rattle.fx_unify.proofs.store.Store.kept_nodes.Given as goal

abbrev pub invariant-loop-step : goal.invariant-loop-step
invariant-loop-step l =
    ((s : Solution) → Solved s (entry l.self) → value s (p_is (type_variable l.current)) ≡ value s (p_is (type_variable l.variable)))
    × Leads (entry l.self) (p_is (type_variable l.variable)) (p_is (type_variable l.current))
