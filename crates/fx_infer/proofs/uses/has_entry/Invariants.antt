use Rattle.std.proofs.Common.{◌≡◌, drop}
use Rattle.fx_types.specs.Ground.{listed}
use Rattle.fx_infer.specs.Lists.{entry_names}
use Rattle.fx_infer.proofs.uses.has_entry.Given as goal

abbrev pub invariant-loop-entry : goal.invariant-loop-entry
invariant-loop-entry l = listed l.label (entry_names l.entries) ≡ listed l.label (entry_names (drop l.entry-index l.entries))
