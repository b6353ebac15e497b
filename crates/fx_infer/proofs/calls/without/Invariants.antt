use Rattle.std.proofs.Common.{take}
use Rattle.fx_infer.proofs.DivideLaws.{WithoutSame}
use Rattle.fx_infer.proofs.calls.without.Given as goal

abbrev pub invariant-loop-entry : goal.invariant-loop-entry
invariant-loop-entry l = WithoutSame l.fn.label (take l.entry-index l.entries) l.others
