use Rattle.std.proofs.Common.{◌≡◌, drop}
use Rattle.fx_csv.specs.Rows.{key_value}
use Rattle.fx_csv.proofs.cell.key_value.Given as goal

abbrev pub invariant-loop-entry : goal.invariant-loop-entry
invariant-loop-entry l = key_value (drop l.entry-index l.entries) l.label ≡ key_value l.entries l.label
