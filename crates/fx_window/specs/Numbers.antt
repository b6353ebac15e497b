-- Whole numbers one after another.
use Rattle.std.specs.Prelude.{ℕ, zero, suc, ℤ, pos, ◌+ℤ◌, List, [], ◌∷◌}
use Rattle.std.specs.Int.{int_gap}

-- so many of them, from the first on
abbrev pub so_many : ℤ → ℕ → List ℤ
so_many first zero = []
so_many first (suc n) = first ∷ so_many (first +ℤ pos 1) n

-- those from the first on and below the next
abbrev pub numbers : ℤ → ℤ → List ℤ
numbers first next = so_many first (int_gap first next)
