use Rattle.std.proofs.Common.{◌≡◌, drop}
use Rattle.fx_schemes.specs.Plan.{cells_of, places_of, with_all}
use Rattle.fx_schemes.proofs.plan.places.Given as goal

abbrev pub invariant-loop-entry : goal.invariant-loop-entry
invariant-loop-entry l = places_of l.given l.entries ≡ with_all (cells_of l.cells.items) (places_of l.given (drop l.entry-index l.entries))
