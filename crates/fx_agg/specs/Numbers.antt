-- Integers of a column, their sum and their spread.
use Rattle.std.specs.Prelude.{ℕ, ◌^◌, ◌-◌, ℤ, pos, neg_ℤ, ◌+ℤ◌, ◌-ℤ◌, int_le, Bool, ◌&&◌, List, [], ◌∷◌, Option, None, Some, if◌then◌else◌}
use Rattle.std.specs.FinMap.{get}
use Rattle.std.specs.Int.{int_min, int_max}
use Rattle.fx_base.specs.declared.fault.FaultKind.TheVariants.{Overflow}
use Rattle.fx_base.specs.declared.place.Place.{Place}
use Rattle.fx_value.specs.declared.scalar.Scalar.{Scalar}
use Rattle.fx_value.specs.declared.scalar.Scalar.TheVariants.{Null, Int}
use Rattle.fx_value.specs.Ends.{End, Gives, Faults, Stuck, and_then}
use Rattle.fx_value.specs.Works.{flat_each}
use Rattle.fx_group.specs.Answer.{Row}

-- an integer for itself; null and a missing column for none, and no other kind is taken
abbrev pub int_of : Option Scalar → End (List ℤ)
int_of (Some (Int n)) = Gives (n ∷ []) 0
int_of (Some Null) = Gives [] 0
int_of None = Gives [] 0
int_of value = Stuck

-- the integers of the column, in the order of the rows
abbrev pub integers : List ℕ → List Row → End (List ℤ)
integers column rows = flat_each (λ row. int_of (get row column)) rows

-- from the least integer of 64 bits to the greatest
abbrev pub in_64_bits : ℤ → Bool
in_64_bits n = int_le (neg_ℤ (pos (2 ^ 63))) n && int_le n (pos (2 ^ 63 - 1))

-- the integer, where it lies in 64 bits
abbrev pub whole : Place → ℤ → End Scalar
whole place n = if in_64_bits n then Gives (Int n) 0 else Faults (record { kind = Overflow; place = place }) 0

abbrev pub total : List ℤ → ℤ
total [] = pos 0
total (n ∷ ns) = n +ℤ total ns

-- the least, and the greatest, of an integer and others
abbrev pub least : ℤ → List ℤ → ℤ
least n [] = n
least n (m ∷ ns) = least (int_min n m) ns

abbrev pub greatest : ℤ → List ℤ → ℤ
greatest n [] = n
greatest n (m ∷ ns) = greatest (int_max n m) ns

-- null where there are no integers; only the whole sum has to lie in 64 bits
abbrev pub sum_of : Place → List ℤ → End Scalar
sum_of place [] = Gives Null 0
sum_of place (n ∷ ns) = whole place (total (n ∷ ns))

abbrev pub spread_of : Place → List ℤ → End Scalar
spread_of place [] = Gives Null 0
spread_of place (n ∷ ns) = whole place (greatest n ns -ℤ least n ns)

abbrev pub summed : Place → List ℕ → List Row → End Scalar
summed place column rows = and_then (integers column rows) (sum_of place)

abbrev pub spread_over : Place → List ℕ → List Row → End Scalar
spread_over place column rows = and_then (integers column rows) (spread_of place)
