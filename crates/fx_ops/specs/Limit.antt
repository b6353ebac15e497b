-- Texts that are not too long.
use Rattle.std.specs.Prelude.{ℕ, nat_le, if◌then◌else◌, Bool, List, length, Result, Ok, Err}
use Rattle.fx_base.specs.declared.fault.FaultKind.{FaultKind}
use Rattle.fx_base.specs.declared.fault.FaultKind.TheVariants.{TooLarge}
use Rattle.fx_value.specs.declared.scalar.Scalar.{Scalar}
use Rattle.fx_value.specs.declared.scalar.Scalar.TheVariants.{Text}

-- at most 1,048,576 bytes
abbrev pub is_short : List ℕ → Bool
is_short text = nat_le (length text) 1_048_576

-- the text, where it isn't too long
abbrev pub limited : List ℕ → Result Scalar FaultKind
limited text = if is_short text then Ok (Text text) else Err TooLarge
