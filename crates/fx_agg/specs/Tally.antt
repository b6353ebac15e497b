-- A tally of integers, as the code keeps it.
use Rattle.std.specs.Prelude.{◌*◌, ◌^◌, ◌-◌, ℕ, ℤ, pos, neg_ℤ, ◌+ℤ◌, ◌≤ℤ◌, List, [], ◌∷◌, Option, None, Some}
use Rattle.std.specs.Int.{int_min, int_max}
use Rattle.fx_agg.specs.declared.numbers.Tally.{Tally}

abbrev pub with_int : Option Tally → ℤ → Tally
with_int None n = record { sum = n; least = n; greatest = n }
with_int (Some t) n = record { sum = t.sum +ℤ n; least = int_min t.least n; greatest = int_max t.greatest n }

abbrev pub tallied : Option Tally → List ℤ → Option Tally
tallied tally [] = tally
tallied tally (n ∷ ns) = tallied (Some (with_int tally n)) ns

-- the sum may be one of so many integers
abbrev pub IsOfAtMost : ℕ → ℤ → Type 0
IsOfAtMost count sum = (neg_ℤ (pos (2 ^ 63 * count)) ≤ℤ sum) × (sum ≤ℤ pos (2 ^ 63 * count))

-- there is room for one more
abbrev pub IsRoomy : ℤ → Type 0
IsRoomy = IsOfAtMost (2 ^ 64 - 2)
