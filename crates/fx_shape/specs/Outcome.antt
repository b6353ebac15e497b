-- What becomes of a row beside those before it, as the code tells it.
use Rattle.std.specs.Prelude.{ℤ, pos, ◌<ℤ◌, ◌-ℤ◌, int_div, List, [], ◌∷◌, Option, None, Some, if◌then◌else◌}
use Rattle.std.specs.FinMap.{insert}
use Rattle.fx_base.specs.declared.fault.FaultKind.TheVariants.{Overflow}
use Rattle.fx_base.specs.declared.place.Place.{Place}
use Rattle.fx_value.specs.declared.scalar.Scalar.{Scalar}
use Rattle.fx_value.specs.declared.scalar.Scalar.TheVariants.{Null, Int}
use Rattle.fx_value.specs.Ends.{End, Gives, Faults}
use Rattle.fx_group.specs.Answer.{Row}
use Rattle.fx_shape.specs.Columns.{Label}
use Rattle.fx_shape.specs.Running.{in_64_bits, int_of, latest, less_last, since_last, sum_with, summed, time_of, with_sum}
use Rattle.fx_shape.specs.declared.running.Outcome.{Outcome}
use Rattle.fx_shape.specs.declared.running.Outcome.TheVariants as outcome
use Rattle.fx_shape.specs.declared.running.Running.{Running}
use Rattle.fx_shape.specs.declared.running.Running.TheVariants as run

abbrev pub number_of : Running → Option Scalar → End (Option ℤ)
number_of run.Difference value = int_of value
number_of run.Sum value = int_of value
number_of (run.Elapsed unit) value = time_of value

abbrev pub come_to : Running → Option ℤ → Option ℤ → Option ℤ
come_to run.Difference before number = latest before number
come_to run.Sum before number = summed before number
come_to (run.Elapsed unit) before number = latest before number

abbrev pub made_of : Running → Place → Label → Option ℤ → Option ℤ → Row → End (List Row)
made_of run.Difference place column = less_last place column
made_of run.Sum place column = with_sum place column
made_of (run.Elapsed unit) place column = since_last place unit.nanos column

abbrev pub number : Place → ℤ → End Outcome
number place n = if in_64_bits n then Gives (outcome.Put (Int n)) 0 else Faults (record { kind = Overflow; place = place }) 0

abbrev pub difference_of : Place → Option ℤ → Option ℤ → End Outcome
difference_of place None n = Gives outcome.Drop 0
difference_of place (Some last) None = Gives outcome.Keep 0
difference_of place (Some last) (Some n) = number place (n -ℤ last)

abbrev pub sum_of : Place → Option ℤ → Option ℤ → End Outcome
sum_of place sum None = Gives outcome.Keep 0
sum_of place sum (Some n) = number place (sum_with sum n)

abbrev pub elapsed_of : Place → ℤ → Option ℤ → Option ℤ → End Outcome
elapsed_of place unit None time = Gives outcome.Drop 0
elapsed_of place unit (Some last) None = Gives (outcome.Put Null) 0
elapsed_of place unit (Some last) (Some time) = number place (int_div (time -ℤ last) unit)

abbrev pub outcome_of : Running → Place → Option ℤ → Option ℤ → End Outcome
outcome_of run.Difference place = difference_of place
outcome_of run.Sum place = sum_of place
outcome_of (run.Elapsed unit) place = elapsed_of place unit.nanos

abbrev pub applied : Outcome → Label → Row → List Row
applied outcome.Drop column row = []
applied outcome.Keep column row = row ∷ []
applied (outcome.Put value) column row = insert row column value ∷ []

-- a unit is greater than 0
abbrev pub IsSound : Running → Type 0
IsSound run.Difference = Unit {0}
IsSound run.Sum = Unit {0}
IsSound (run.Elapsed unit) = pos 0 <ℤ unit.nanos
