use Rattle.std.proofs.Common.{◌≡◌}
use Rattle.fx_types.specs.Instance.{Solution}
use Rattle.fx_unify.specs.Least.{Leads}
use Rattle.fx_unify.specs.Part.{value, Solved}
use Rattle.fx_unify.specs.Store.{entry}
use Rattle.fx_unify.specs.View.{part_seen}
use Rattle.fx_unify.proofs.store.Store.seen.Given as goal

abbrev pub invariant-loop-step : goal.invariant-loop-step
invariant-loop-step l =
    ((s : Solution) → Solved s (entry l.self) → value s (part_seen l.current) ≡ value s (part_seen l.fn.view)) × Leads (entry l.self) (part_seen l.fn.view) (part_seen l.current)
