use Rattle.std.proofs.Common.{ℕ, ◌<◌}
use Rattle.fx_types.specs.Term.{Label}
use Rattle.fx_unify.specs.Part.{p_slot}
use Rattle.fx_unify.specs.Store.{entry}
use Rattle.fx_generalize.specs.Open.{Ends, RowEnds}
use Rattle.fx_generalize.proofs.ends.see_rows.Given as goal

abbrev pub invariant-loop-row : goal.invariant-loop-row
invariant-loop-row l = (r : ℕ) → r < l.row → RowEnds l.bindings.store r × ((k : Label) → Ends (entry l.bindings.store) (p_slot r k))
