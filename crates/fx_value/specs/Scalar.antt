-- The kind and the order of scalars.
use Rattle.std.specs.Prelude.{ℕ, Option, None, Some}
use Rattle.std.specs.declared.cmp.Ordering.{Ordering}
use Rattle.std.specs.Ordering.{nat_cmp, int_cmp, bool_cmp}
use Rattle.std.specs.Cmp.Lexicographic.{slice_cmp}
use Rattle.fx_value.specs.declared.scalar.Kind.{Kind}
use Rattle.fx_value.specs.declared.scalar.Kind.TheVariants as kind
use Rattle.fx_value.specs.declared.scalar.Scalar.{Scalar}
use Rattle.fx_value.specs.declared.scalar.Scalar.TheVariants.{Null, Bool, Int, Text, Time}

abbrev pub kind_of : Scalar → Option Kind
kind_of Null = None
kind_of (Bool b) = Some kind.Bool
kind_of (Int n) = Some kind.Int
kind_of (Text t) = Some kind.Text
kind_of (Time t) = Some kind.Time

-- where a scalar's kind stands among the kinds, null first
abbrev pub rank : Scalar → ℕ
rank Null = 0
rank (Bool b) = 1
rank (Int n) = 2
rank (Text t) = 3
rank (Time t) = 4

-- null first, then Booleans with false first, integers, texts by bytes, times
abbrev pub scalar_cmp : Scalar → Scalar → Ordering
scalar_cmp (Bool a) (Bool b) = bool_cmp a b
scalar_cmp (Int a) (Int b) = int_cmp a b
scalar_cmp (Text a) (Text b) = slice_cmp nat_cmp a b
scalar_cmp (Time a) (Time b) = int_cmp a b
scalar_cmp a b = nat_cmp (rank a) (rank b)
