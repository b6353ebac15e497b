use Rattle.std.proofs.Common.{◌≡◌, ◌∷◌}
use Rattle.std.specs.List.{filter}
use Rattle.fx_pivot.specs.Pivot.{stays}
use Rattle.fx_pivot.proofs.pivoting.base_key.Given as goal

abbrev pub invariant-loop-entry : goal.invariant-loop-entry
invariant-loop-entry l = l.entries.items ≡ filter (stays (l.value ∷ l.columns)) l.yielded
