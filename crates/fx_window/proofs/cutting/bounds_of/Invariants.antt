use Rattle.std.proofs.Common.{◌≡◌, drop}
use Rattle.fx_window.specs.Cut.{bounds_of}
use Rattle.fx_window.specs.Plain.{bounds_after}
use Rattle.fx_window.proofs.cutting.bounds_of.Given as goal

abbrev pub invariant-loop-placed : goal.invariant-loop-placed
invariant-loop-placed l = bounds_after l.bounds (drop l.placed-index l.fn.placed) ≡ bounds_of l.fn.placed
