-- Solutions that give the same to some numbers.
use Rattle.std.specs.Prelude.{◌≡◌, ◌<◌, ℕ}
use Rattle.fx_types.specs.Instance.{Solution}

-- the two give the same to all numbers below n
abbrev pub Agree : ℕ → Solution → Solution → Type 0
Agree n s q = (m : ℕ) → m < n → (s.type_of m ≡ q.type_of m) × (s.field_of m ≡ q.field_of m) × (s.row_of m ≡ q.row_of m)
