use Rattle.std.proofs.Common.{◌≡◌, ◌≤◌, length, take, filter_map}
use Rattle.fx_data.specs.Regrouped.{after}
use Rattle.fx_data.proofs.rekey.is_new_key.Given as goal

abbrev pub invariant-loop-entry : goal.invariant-loop-entry
invariant-loop-entry l = (l.done ≤ length l.entries) × (take l.done l.entries ≡ filter_map (after l.row) (take l.entry-index l.old.entries))
