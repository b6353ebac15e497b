-- What calls that evaluate nothing answer.
use Rattle.std.specs.Prelude.{◌≡◌, Result, Ok, Err}
use Rattle.fx_base.specs.declared.place.Place.{Place}
use Rattle.fx_ops.specs.declared.fault.OpFault.{OpFault}
use Rattle.fx_ops.specs.declared.fault.OpFault.TheVariants as op
use Rattle.fx_meaning.specs.Ends.{fault_at}
use Rattle.fx_value.specs.Ends.{End, Gives, Faults, Stuck}
use Rattle.fx_values.specs.declared.stop.Stop.{Stop}
use Rattle.fx_values.specs.declared.stop.Stop.TheVariants as stop

abbrev pub stop_at : Place → OpFault → Stop
stop_at place (op.Kind kind) = stop.Fault (fault_at place kind)
stop_at place op.Memory = stop.Memory

-- the answer is the end without ticks, or want of memory; f is what the answer's value is as plain data
abbrev pub Tells : {A B : Type 0} → (A → B) → End B → Result A Stop → Type 0
Tells f end (Ok value) = end ≡ Gives (f value) 0
Tells f end (Err (stop.Fault fault)) = end ≡ Faults fault 0
Tells f end (Err stop.Stuck) = end ≡ Stuck
Tells f end (Err (stop.Budget ticks)) = ⊥
Tells f end (Err stop.Memory) = Unit {0}
