use Rattle.std.proofs.Common.{◌≡◌, map}
use Rattle.std.specs.List.{filter}
use Rattle.fx_group.specs.Wanted.{picks, wanted_entry}
use Rattle.fx_group.proofs.grouping.wanted_key.Given as goal

abbrev pub invariant-loop-label : goal.invariant-loop-label
invariant-loop-label l = l.entries.items ≡ map wanted_entry (filter (picks l.columns l.except) l.yielded)
