use Rattle.fx_unify.specs.Rows.{Grows}
use Rattle.fx_unify.proofs.LeastLaws.{Rests}
use Rattle.fx_unify.proofs.store.Store.follow_row.Given as goal

abbrev pub invariant-loop-step : goal.invariant-loop-step
invariant-loop-step l = Rests l.self l.labels.items l.row l.current × Grows l.initial.labels.items l.labels.items
