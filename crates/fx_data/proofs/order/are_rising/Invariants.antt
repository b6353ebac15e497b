use Rattle.std.proofs.Common.{◌≡◌, ℕ, ◌+◌, drop}
use Rattle.fx_data.specs.Ascending.{Rise}
use Rattle.fx_data.proofs.order.are_rising.Given as goal

abbrev pub invariant-loop-i : goal.invariant-loop-i
invariant-loop-i l = (j : ℕ) → j + 1 ≡ l.i → Rise (drop j l.tables) → Rise l.tables
