use Rattle.std.proofs.Common.{◌≡◌, ◌++◌, map, take, drop}
use Rattle.fx_window.specs.Cut.{within}
use Rattle.fx_window.proofs.cutting.all_within.Given as goal

abbrev pub invariant-loop-placed : goal.invariant-loop-placed
invariant-loop-placed l = l.placed-items ≡ map (within l.bounds) (take l.placed-index l.initial.placed-items) ++ drop l.placed-index l.initial.placed-items
