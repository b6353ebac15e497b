-- Of which kind scalars are, and in which range.
use Rattle.std.specs.Prelude.{◌&&◌, Bool, true, false}
use Rattle.fx_value.specs.declared.scalar.Kind.{Kind}
use Rattle.fx_value.specs.declared.scalar.Kind.TheVariants as kind
use Rattle.fx_value.specs.declared.scalar.Scalar.{Scalar}
use Rattle.fx_value.specs.declared.scalar.Scalar.TheVariants as scalar
use Rattle.fx_ops.specs.Limit.{is_short}
use Rattle.fx_ops.specs.Whole.{in_64_bits}

-- null, or of the kind
abbrev pub is_kind : Scalar → Kind → Bool
is_kind scalar.Null _ = true
is_kind (scalar.Bool b) kind.Bool = true
is_kind (scalar.Bool b) _ = false
is_kind (scalar.Int n) kind.Int = true
is_kind (scalar.Int n) _ = false
is_kind (scalar.Text text) kind.Text = true
is_kind (scalar.Text text) _ = false
is_kind (scalar.Time t) kind.Time = true
is_kind (scalar.Time t) _ = false

-- in 64 bits, if it is an integer or a time
abbrev pub is_whole : Scalar → Bool
is_whole (scalar.Int n) = in_64_bits n
is_whole (scalar.Time t) = in_64_bits t
is_whole _ = true

-- not too long, if it is a text
abbrev pub is_limited : Scalar → Bool
is_limited (scalar.Text text) = is_short text
is_limited _ = true

-- integers and times lie in 64 bits, and texts have at most 1,048,576 bytes
abbrev pub in_range : Scalar → Bool
in_range a = is_whole a && is_limited a
