use Rattle.std.proofs.Common.{take}
use Rattle.fx_infer.specs.Lists.{AreRaised}
use Rattle.fx_infer.proofs.uses.raise_entries.Given as goal

abbrev pub invariant-loop-entry : goal.invariant-loop-entry
invariant-loop-entry l = AreRaised l.by l.fn.bindings (take l.entry-index l.entries) l.asked l.raised
