-- What operands are to operators.
use Rattle.std.specs.Prelude.{ℕ, List, [], ℤ, pos}
use Rattle.fx_value.specs.declared.scalar.Scalar.{Scalar}
use Rattle.fx_value.specs.declared.scalar.Scalar.TheVariants.{Null, Bool, Int, Text, Time}

-- the number of an integer or of a time, and 0 of any other operand
abbrev pub number : Scalar → ℤ
number (Int n) = n
number (Time t) = t
number Null = pos 0
number (Bool b) = pos 0
number (Text t) = pos 0

-- the bytes of a text, and none of any other operand
abbrev pub bytes : Scalar → List ℕ
bytes (Text t) = t
bytes Null = []
bytes (Bool b) = []
bytes (Int n) = []
bytes (Time t) = []
