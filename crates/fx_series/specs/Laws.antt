-- What the laws about the stored points speak of.
use Rattle.std.specs.Prelude.{ℤ, List, Option, None, map, filter}
use Rattle.std.specs.Ordering.{int_eq}
use Rattle.std.specs.List.{last_or}
use Rattle.std.specs.Map.{lookup}
use Rattle.fx_value.specs.declared.scalar.Scalar.{Scalar}
use Rattle.fx_line.specs.declared.point.Point.{Point}

-- the value of the last of some points that has this time
abbrev pub last_at : ℤ → List Point → Option Scalar
last_at time points = last_or None (map (λ p. p.value) (filter (λ p. int_eq time p.time) points))

-- the value that stands at a time
abbrev pub value_at : ℤ → List (ℤ × Scalar) → Option Scalar
value_at time values = lookup (int_eq time) values
