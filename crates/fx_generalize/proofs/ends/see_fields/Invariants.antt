use Rattle.std.proofs.Common.{ℕ, ◌<◌}
use Rattle.fx_unify.specs.Part.{p_field}
use Rattle.fx_unify.specs.Store.{entry}
use Rattle.fx_generalize.specs.Open.{Ends}
use Rattle.fx_generalize.proofs.ends.see_fields.Given as goal

abbrev pub invariant-loop-number : goal.invariant-loop-number
invariant-loop-number l = (n : ℕ) → n < l.number → Ends (entry l.bindings.store) (p_field n)
