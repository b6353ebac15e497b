use Rattle.std.proofs.Common.{◌≡◌, map}
use Rattle.fx_agg.specs.Reduce.{pinned}
use Rattle.fx_agg.proofs.reducing.all_pinned.Given as goal

abbrev pub invariant-loop-entry : goal.invariant-loop-entry
invariant-loop-entry l = l.entries.items ≡ map pinned l.yielded
