use Rattle.std.proofs.Common.{◌≡◌, ℕ, true, take}
use Rattle.fx_types.specs.Ground.{listed}
use Rattle.fx_types.specs.Term.{Label}
use Rattle.fx_unify.specs.Counted.{Counted}
use Rattle.fx_unify.specs.Decide.{Fixed}
use Rattle.fx_unify.specs.Measure.{least}
use Rattle.fx_unify.proofs.store.Store.check_labels.Given as goal

abbrev pub invariant-loop-label : goal.invariant-loop-label
invariant-loop-label l =
    ((k : ℕ) × ((x : Label) → listed x (take l.label-index l.labels) ≡ true → Fixed (least l.self l.sorts) (λ s. s.row_of l.row x) k)) × Counted l.self l.sorts l.counts
