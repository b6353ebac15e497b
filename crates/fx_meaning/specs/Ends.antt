-- Ends of evaluation: what a rule gives without ticks, and how one end follows another.
use Rattle.std.specs.Prelude.{ℕ, List, Option, None, Some, Result, Ok, Err, ℤ, if◌then◌else◌}
use Rattle.fx_base.specs.declared.fault.Fault.{Fault}
use Rattle.fx_base.specs.declared.fault.FaultKind.{FaultKind}
use Rattle.fx_base.specs.declared.fault.FaultKind.TheVariants.{TimeRange}
use Rattle.fx_base.specs.declared.place.Place.{Place}
use Rattle.fx_ops.specs.Limit.{limited}
use Rattle.fx_ops.specs.Whole.{in_64_bits, whole}
use Rattle.fx_value.specs.Ends.{End, Gives, Faults, Stuck, and_then}
use Rattle.fx_value.specs.declared.scalar.Scalar.{Scalar}
use Rattle.fx_value.specs.declared.scalar.Scalar.TheVariants as scalar
use Rattle.fx_meaning.specs.Value.{Val, cell}

infixl 10 ◌>>=◌
abbrev pub ◌>>=◌ : {A B : Type 0} → End A → (A → End B) → End B
end >>= next = and_then end next

abbrev pub pure : {A : Type 0} → A → End A
pure value = Gives value 0

-- what isn't there is Stuck
abbrev pub found : {A : Type 0} → Option A → End A
found (Some value) = Gives value 0
found None = Stuck

abbrev pub fault_at : Place → FaultKind → Fault
fault_at place kind = record { kind = kind; place = place }

-- a value, or a fault at the place
abbrev pub answered : {A : Type 0} → Place → Result A FaultKind → End A
answered place (Ok value) = Gives value 0
answered place (Err kind) = Faults (fault_at place kind) 0

-- what a rule may make: integers and times of 64 bits, and texts of at most 1,048,576 bytes
abbrev pub ranged : Scalar → Result Scalar FaultKind
ranged (scalar.Int n) = whole n
ranged (scalar.Time t) = if in_64_bits t then Ok (scalar.Time t) else Err TimeRange
ranged (scalar.Text text) = limited text
ranged (scalar.Bool b) = Ok (scalar.Bool b)
ranged scalar.Null = Ok scalar.Null

-- the value of a rule that answers with a scalar
abbrev pub cell_at : Place → Result Scalar FaultKind → End Val
cell_at place answer = do
  a ← answered place answer
  b ← answered place (ranged a)
  pure (cell b)
