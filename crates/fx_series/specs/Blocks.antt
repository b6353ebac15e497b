-- The values of a series in blocks, by rising time over all of them.
use Rattle.std.specs.Prelude.{◌≡◌, ℕ, ℤ, pos, suc, ◌+◌, ◌<◌, ◌≤◌, Bool, false, List, [], ◌∷◌, ◌++◌, length, take, drop, get_or, flat_map, if◌then◌else◌}
use Rattle.std.specs.List.{AllByRecursion, insert}
use Rattle.std.proofs.Math.ListN.{set}
use Rattle.std.specs.declared.cmp.Ordering.TheVariants.{Less}
use Rattle.std.specs.Ordering.{int_cmp, is_lt}
use Rattle.fx_value.specs.declared.scalar.Scalar.{Scalar}
use Rattle.fx_series.specs.declared.series.TimeValue.{TimeValue}
use Rattle.fx_series.specs.Read.{pairs}

-- all values of the blocks, block after block
abbrev pub entries_in : List (List TimeValue) → List (ℤ × Scalar)
entries_in blocks = flat_map pairs blocks

-- all values are before a time, and all are after it
abbrev pub Before : ℤ → List (ℤ × Scalar) → Type 0
Before time = AllByRecursion (λ e. int_cmp e.0 time ≡ Less)

abbrev pub After : ℤ → List (ℤ × Scalar) → Type 0
After time = AllByRecursion (λ e. int_cmp time e.0 ≡ Less)

-- the times rise
abbrev pub Rises : List (ℤ × Scalar) → Type 0
Rises [] = Unit {0}
Rises (e ∷ es) = After e.0 es × Rises es

-- a block holds at least one value and at most 1,024
abbrev pub IsBlock : List TimeValue → Type 0
IsBlock b = (0 < length b) × (length b ≤ 1024)

pub record AreBlocks (blocks : List (List TimeValue)) : Type 0 where
  pub each : AllByRecursion IsBlock blocks
  pub rising : Rises (entries_in blocks)

-- the block with this number is where a value of the time belongs
pub record Belongs (blocks : List (List TimeValue)) (time : ℤ) (place : ℕ) : Type 0 where
  pub within : place < length blocks
  pub below : Before time (entries_in (take place blocks))
  pub above : After time (entries_in (drop (place + 1) blocks))

-- the time of the last value
abbrev pub last_time : List TimeValue → ℤ
last_time [] = pos 0
last_time (v ∷ []) = v.time
last_time (v ∷ w ∷ vs) = last_time (w ∷ vs)

-- the values before this place are before the time, and the one at it is not
pub record IsPlace (points : List TimeValue) (time : ℤ) (place : ℕ) : Type 0 where
  pub within : place ≤ length points
  pub below : Before time (pairs (take place points))
  pub above : (d : TimeValue) → place < length points → is_lt (int_cmp (get_or points place d).time time) ≡ false

-- the block with this number has room for another value
pub record HasRoom (blocks : List (List TimeValue)) (place : ℕ) : Type 0 where
  pub room : (d : List TimeValue) → place < length blocks → length (get_or blocks place d) < 1024

-- a full block was cut in two, and the value belongs into one of its halves
pub record IsCut (old : List (List TimeValue)) (place : ℕ) (new : List (List TimeValue)) : Type 0 where
  pub left : List TimeValue
  pub right : List TimeValue
  pub joined : (d : List TimeValue) → left ++ right ≡ get_or old place d
  pub left_long : length left ≡ 512
  pub right_long : length right ≡ 512
  pub blocks : new ≡ insert (set old place left) (suc place) right

-- the time of the first value
abbrev pub first_time : List TimeValue → ℤ
first_time [] = pos 0
first_time (v ∷ vs) = v.time

-- the blocks that are looked at for values up to a time: those up to the first that begins after it
abbrev pub looked : ℤ → List (List TimeValue) → List (List TimeValue)
looked last [] = []
looked last (b ∷ bs) = if is_lt (int_cmp last (first_time b)) then [] else b ∷ looked last bs
