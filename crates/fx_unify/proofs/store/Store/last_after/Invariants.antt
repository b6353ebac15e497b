use Rattle.fx_types.specs.Term.{type_variable}
use Rattle.fx_unify.specs.Part.{p_is}
use Rattle.fx_unify.proofs.JoinLaws.{LeadsTo}
use Rattle.fx_unify.proofs.store.Store.last_after.Given as goal

abbrev pub invariant-loop-step : goal.invariant-loop-step
invariant-loop-step l = LeadsTo l.self (p_is (type_variable l.variable)) l.current
