-- What is read of a store.
use Rattle.std.specs.Prelude.{ℕ, ℤ, Bool, ◌&&◌, ◌+◌, List, [], ◌∷◌, if◌then◌else◌, Some, map, filter, int_le}
use Rattle.fx_base.specs.Text.{same_text}
use Rattle.fx_value.specs.declared.scalar.Kind.{Kind}
use Rattle.fx_value.specs.declared.scalar.Scalar.{Scalar}
use Rattle.fx_line.specs.Stored.{Series, same_kind}
use Rattle.fx_series.specs.declared.series.TimeValue.{TimeValue}

-- whether a series is in a bucket and of a kind
abbrev pub is_in : List ℕ → Kind → Series → Bool
is_in bucket kind s = same_text bucket s.id.bucket && same_kind s.id.kind (Some kind)

-- the values with first ≤ time ≤ last
abbrev pub between : ℤ → ℤ → List (ℤ × Scalar) → List (ℤ × Scalar)
between first last values = filter (λ v. int_le first v.0 && int_le v.0 last) values

-- times and values as pairs
abbrev pub pairs : List TimeValue → List (ℤ × Scalar)
pairs values = map (λ v. (v.time, v.value)) values

-- the numbers from `at` on of the items that pass a test
abbrev pub places : {X : Type 0} → (X → Bool) → ℕ → List X → List ℕ
places test at [] = []
places test at (x ∷ xs) = if test x then at ∷ places test (at + 1) xs else places test (at + 1) xs
