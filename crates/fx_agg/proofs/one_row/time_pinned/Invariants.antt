use Rattle.std.proofs.Common.{◌≡◌, map, take}
use Rattle.fx_agg.specs.OneRow.{pinned_time}
use Rattle.fx_agg.proofs.one_row.time_pinned.Given as goal

abbrev pub invariant-loop-entry : goal.invariant-loop-entry
invariant-loop-entry l = l.entries.items ≡ map pinned_time (take l.entry-index l.old)
