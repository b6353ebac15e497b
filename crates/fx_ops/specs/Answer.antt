-- What calls of operators answer.
use Rattle.std.specs.Prelude.{◌≡◌, Result, Ok, Err}
use Rattle.fx_base.specs.declared.fault.FaultKind.{FaultKind}
use Rattle.fx_ops.specs.declared.fault.OpFault.{OpFault}
use Rattle.fx_ops.specs.declared.fault.OpFault.TheVariants as op

-- a call answers the value or the fault that is wanted, or want of memory
abbrev pub Gives : {A : Type 0} → Result A FaultKind → Result A OpFault → Type 0
Gives wanted (Ok value) = wanted ≡ Ok value
Gives wanted (Err (op.Kind kind)) = wanted ≡ Err kind
Gives wanted (Err op.Memory) = Unit {0}
