use Rattle.std.proofs.Common.{◌≡◌, ℕ, ◌+◌, ◌-◌, length}
use Rattle.fx_unify.specs.Sorts.{set_at}
use Rattle.fx_unify.proofs.sorts.put_sorts.Given as goal

abbrev pub decreases-loop-sorts : goal.decreases-loop-sorts
decreases-loop-sorts l = l.at + 1 - length l.sorts.items

abbrev pub invariant-loop-sorts : goal.invariant-loop-sorts
invariant-loop-sorts l = (n : ℕ) → set_at l.sorts.items n ≡ set_at l.initial.sorts.items n
