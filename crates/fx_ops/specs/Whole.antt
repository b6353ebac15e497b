-- Integers of 64 bits.
use Rattle.std.specs.Prelude.{◌^◌, ◌-◌, Bool, true, false, ◌&&◌, if◌then◌else◌, Result, Ok, Err, ℤ, pos, neg_ℤ, int_le, int_div, int_rem}
use Rattle.std.specs.Ordering.{int_eq}
use Rattle.fx_base.specs.declared.fault.FaultKind.{FaultKind}
use Rattle.fx_base.specs.declared.fault.FaultKind.TheVariants.{Overflow, DivideByZero}
use Rattle.fx_value.specs.declared.scalar.Scalar.{Scalar}
use Rattle.fx_value.specs.declared.scalar.Scalar.TheVariants.{Null, Int}

-- from the least integer of 64 bits to the greatest
abbrev pub in_64_bits : ℤ → Bool
in_64_bits n = int_le (neg_ℤ (pos (2 ^ 63))) n && int_le n (pos (2 ^ 63 - 1))

-- the integer, where it lies in 64 bits
abbrev pub whole : ℤ → Result Scalar FaultKind
whole n = if in_64_bits n then Ok (Int n) else Err Overflow

-- truncated towards zero
abbrev pub quotient : ℤ → ℤ → Result Scalar FaultKind
quotient a b = if int_eq b (pos 0) then Err DivideByZero else whole (int_div a b)

-- with the sign of the dividend
abbrev pub remainder : ℤ → ℤ → Result Scalar FaultKind
remainder a b = if int_eq b (pos 0) then Err DivideByZero else Ok (Int (int_rem a b))

-- a sign stands before null or an integer
abbrev pub takes_sign : Scalar → Bool
takes_sign Null = true
takes_sign (Int n) = true
takes_sign _ = false

-- the negated integer, null for null
abbrev pub negation : Scalar → Result Scalar FaultKind
negation (Int n) = whole (neg_ℤ n)
negation _ = Ok Null
