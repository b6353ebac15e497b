use Rattle.std.proofs.Common.{◌≡◌, drop}
use Rattle.fx_csv.specs.Printed.{pinned_value}
use Rattle.fx_csv.proofs.kind.pinned.Given as goal

abbrev pub invariant-loop-entry : goal.invariant-loop-entry
invariant-loop-entry l = pinned_value (drop l.entry-index l.entries) l.label ≡ pinned_value l.entries l.label
