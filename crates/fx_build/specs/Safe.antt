-- Ends that aren't Stuck.
use Rattle.fx_value.specs.Ends.{End, Gives, Faults, Stuck, More}

-- the end isn't Stuck, and where it is a value, that is as P says
abbrev pub IsSafe : {A : Type 0} → (A → Type 0) → End A → Type 0
IsSafe P (Gives value ticks) = P value
IsSafe P (Faults fault ticks) = Unit {0}
IsSafe P Stuck = ⊥
IsSafe P More = Unit {0}
