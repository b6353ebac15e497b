use Rattle.std.proofs.Common.{◌≡◌, ℕ, ◌-◌, ◌+◌, [], get_or, vec_len}
use Rattle.fx_unify.proofs.put.add.Given as goal

abbrev pub invariant-loop-alloc : goal.invariant-loop-alloc
invariant-loop-alloc g l = (n : ℕ) → get_or l.lists.items n [] ≡ get_or l.initial.lists.items n []

abbrev pub decreases-loop-alloc : goal.decreases-loop-alloc
decreases-loop-alloc g l = l.at + 1 - vec_len l.lists
