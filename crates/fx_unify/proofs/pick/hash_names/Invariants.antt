use Rattle.std.proofs.Common.{◌≡◌, take}
use Rattle.fx_unify.specs.Sums.{names}
use Rattle.fx_unify.proofs.pick.hash_names.Given as goal

abbrev pub invariant-loop-entry : goal.invariant-loop-entry
invariant-loop-entry l = l.labels.keys ≡ names (take l.entry-index l.entries)
