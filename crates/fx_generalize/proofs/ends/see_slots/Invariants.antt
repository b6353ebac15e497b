use Rattle.std.proofs.Common.{◌≡◌, true, take}
use Rattle.fx_types.specs.Ground.{listed}
use Rattle.fx_types.specs.Term.{Label}
use Rattle.fx_unify.specs.Part.{p_slot}
use Rattle.fx_unify.specs.Store.{entry}
use Rattle.fx_generalize.specs.Open.{Ends}
use Rattle.fx_generalize.proofs.ends.see_slots.Given as goal

abbrev pub invariant-loop-label : goal.invariant-loop-label
invariant-loop-label l = (k : Label) → listed k (take l.label-index l.labels) ≡ true → Ends (entry l.bindings.store) (p_slot l.row k)
