use Rattle.std.proofs.Common.{◌≡◌, map}
use Rattle.fx_data.specs.Shared.{column_entry}
use Rattle.fx_data.proofs.shared.shared_key.Given as goal

abbrev pub invariant-loop-label : goal.invariant-loop-label
invariant-loop-label l = l.entries.items ≡ map column_entry l.yielded
