-- How many nodes a type has, and what is a type.
use Rattle.std.specs.Prelude.{◌≡◌, ℕ, ◌+◌, ◌≤◌, ◌<◌, ◌^◌, ◌-◌, false, List, [], ◌∷◌, ◌↔◌}
use Rattle.fx_types.specs.Term.{Label}
use Rattle.fx_types.specs.Ground.{Ground, GroundField, g_array, g_fun, g_rec, g_stream, g_absent, g_is, is_column, listed, IsWellFormed}

-- each label at most once
abbrev pub AreDistinct : List Label → Type 0
AreDistinct [] = Unit {0}
AreDistinct (l ∷ ls) = (listed l ls ≡ false) × AreDistinct ls

abbrev pub total : (Label → ℕ) → List Label → ℕ
total weight [] = 0
total weight (l ∷ ls) = weight l + total weight ls

-- the type has at most n nodes: a basic type is one, an array one more than its element, and a
-- record, a stream or a function one more than whatever labels of it together, each counted once
abbrev mutual
  pub AtMost : Ground → ℕ → Type 0
  AtMost (g_array t) n = (k : ℕ) × AtMost t k × (k + 1 ≤ n)
  AtMost (g_fun r p t) n =
      (weight : Label → ℕ) × (i : ℕ) × (k : ℕ) × ((l : Label) → Takes (r l) (weight l)) × Pipes p i × AtMost t k
      × ((ls : List Label) → AreDistinct ls → total weight ls + i + k + 1 ≤ n)
  AtMost (g_rec r) n =
      (weight : Label → ℕ) × ((l : Label) → Weighs (r l) (weight l)) × ((ls : List Label) → AreDistinct ls → total weight ls + 1 ≤ n)
  AtMost (g_stream r) n =
      (weight : Label → ℕ) × ((l : Label) → Weighs (r l) (weight l)) × ((ls : List Label) → AreDistinct ls → total weight ls + 1 ≤ n)
  AtMost _ n = 1 ≤ n

  -- a field of a row counts where it isn't of a column kind, for its type and one more
  pub Weighs : GroundField → ℕ → Type 0
  Weighs g_absent n = Unit {0}
  Weighs (g_is t) n = is_column t ≡ false → (k : ℕ) × AtMost t k × (k + 1 ≤ n)

  -- a required label counts for its type and one more
  pub Takes : GroundField → ℕ → Type 0
  Takes g_absent n = Unit {0}
  Takes (g_is t) n = (k : ℕ) × AtMost t k × (k + 1 ≤ n)

  -- what comes by the pipe counts for its type
  pub Pipes : GroundField → ℕ → Type 0
  Pipes g_absent n = Unit {0}
  Pipes (g_is t) n = AtMost t n

-- types have at most 4,096 nodes
abbrev pub IsType : Ground → Type 0
IsType t = IsWellFormed t × AtMost t 4096

-- the number of a type's nodes, or the greatest number of 64 bits where it has that many or more
abbrev pub IsSize : Ground → ℕ → Type 0
IsSize t size = (n : ℕ) → n < 2 ^ 64 - 1 → AtMost t n ↔ (size ≤ n)
