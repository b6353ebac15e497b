-- What counts no more than another, in a row too.
use Rattle.std.specs.Prelude.{◌≡◌, ℕ, true}
use Rattle.fx_types.specs.Term.{Label, Term}
use Rattle.fx_types.specs.Ground.{Ground, GroundField, g_absent, g_is, is_column}
use Rattle.fx_types.specs.Instance.{Solution, ground}
use Rattle.fx_types.specs.Size.{AtMost}

abbrev pub Less : Ground → Ground → Type 0
Less t u = (is_column u ≡ true → is_column t ≡ true) × ((n : ℕ) → AtMost u n → AtMost t n)

abbrev pub LessField : GroundField → GroundField → Type 0
LessField g_absent f = Unit {0}
LessField (g_is t) g_absent = ⊥
LessField (g_is t) (g_is u) = Less t u

abbrev pub LessSolution : Solution → Solution → Type 0
LessSolution s q = ((n : ℕ) → Less (s.type_of n) (q.type_of n)) × ((n : ℕ) → LessField (s.field_of n) (q.field_of n)) × ((r : ℕ) (l : Label) → LessField (s.row_of r l) (q.row_of r l))

-- every term has at most the nodes that it has under q
abbrev pub IsSmaller : Solution → Solution → Type 0
IsSmaller s q = (t : Term) (n : ℕ) → AtMost (ground q t) n → AtMost (ground s t) n
