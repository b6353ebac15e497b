use Rattle.std.proofs.Common.{◌≡◌, ℕ, ◌-◌, ◌+◌, None, get_or, vec_len}
use Rattle.fx_unify.proofs.put.replace.Given as goal

abbrev pub invariant-loop-items : goal.invariant-loop-items
invariant-loop-items g l = (n : ℕ) → get_or l.items.items n None ≡ get_or l.initial.items.items n None

abbrev pub decreases-loop-items : goal.decreases-loop-items
decreases-loop-items g l = l.at + 1 - vec_len l.items
