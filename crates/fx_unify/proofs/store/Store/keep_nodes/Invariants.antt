use Rattle.std.proofs.Common.{List}
use Rattle.fx_unify.specs.declared.sorts.Sorts as sorts
use Rattle.fx_unify.specs.Counted.{Counted, HasNodes}
use Rattle.fx_unify.proofs.store.Store.keep_nodes.Given as goal

abbrev pub invariant-loop-step : goal.invariant-loop-step
invariant-loop-step l =
    (ks : List sorts.Sorts) → Counted l.self ks l.initial.counts → HasNodes l.self ks l.variable l.nodes → Counted l.self ks l.counts × HasNodes l.self ks l.current l.nodes
