use Rattle.std.proofs.Common.{◌≡◌, map, take}
use Rattle.fx_pivot.specs.Pivot.{pinned_but}
use Rattle.fx_pivot.proofs.pivoting.pivot_key.Given as goal

abbrev pub invariant-loop-entry : goal.invariant-loop-entry
invariant-loop-entry l = l.entries.items ≡ map (pinned_but l.rows) (take l.entry-index l.old)
