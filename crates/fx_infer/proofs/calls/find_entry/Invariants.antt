use Rattle.std.proofs.Common.{◌≡◌, drop}
use Rattle.fx_infer.specs.Calls.{entry_of}
use Rattle.fx_infer.proofs.calls.find_entry.Given as goal

abbrev pub invariant-loop-entry : goal.invariant-loop-entry
invariant-loop-entry l = entry_of l.label l.entries ≡ entry_of l.label (drop l.entry-index l.entries)
