use Rattle.std.proofs.Common.{◌≡◌, ◌++◌}
use Rattle.fx_generalize.proofs.read.joined.Given as goal

abbrev pub invariant-loop-entry : goal.invariant-loop-entry
invariant-loop-entry l = l.all ≡ l.fn.fields ++ l.yielded
