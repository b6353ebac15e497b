use Rattle.std.proofs.Common.{take}
use Rattle.fx_infer.specs.Calls.{AreSplit}
use Rattle.fx_infer.proofs.calls.divide.Given as goal

abbrev pub invariant-loop-arg : goal.invariant-loop-arg
invariant-loop-arg l = AreSplit l.fn.bindings (take l.arg-index l.args) l.optional l.asked l.needs
