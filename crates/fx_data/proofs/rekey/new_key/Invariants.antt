use Rattle.std.proofs.Common.{◌≡◌, take, filter_map}
use Rattle.fx_data.specs.Regrouped.{after}
use Rattle.fx_data.proofs.rekey.new_key.Given as goal

abbrev pub invariant-loop-entry : goal.invariant-loop-entry
invariant-loop-entry l = l.entries.items ≡ filter_map (after l.row) (take l.entry-index l.old)
