use Rattle.std.proofs.Common.{◌↔◌, ◌≤◌, ◌<◌, ℕ}
use Rattle.fx_types.specs.Instance.{Solution}
use Rattle.fx_generalize.specs.Named.{IsBounded}
use Rattle.fx_generalize.specs.Solved.{Ascend, KeepsKinds, numbers_bounds}
use Rattle.fx_generalize.proofs.kinds.bounds_of.Given as goal

abbrev pub invariant-loop-i : goal.invariant-loop-i
invariant-loop-i l = ((q : Solution) → KeepsKinds q l.bounds ↔ ((k : ℕ) → k < l.i → IsBounded l.sorts l.types q k)) × Ascend l.bounds × (numbers_bounds l.bounds ≤ l.i)
