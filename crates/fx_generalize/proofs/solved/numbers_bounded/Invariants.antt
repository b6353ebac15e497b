use Rattle.std.proofs.Common.{◌≡◌, max, drop}
use Rattle.fx_generalize.specs.Solved.{numbers_bounds}
use Rattle.fx_generalize.proofs.solved.numbers_bounded.Given as goal

abbrev pub invariant-loop-bound : goal.invariant-loop-bound
invariant-loop-bound l = max l.greatest (numbers_bounds (drop l.bound-index l.bounds)) ≡ numbers_bounds l.bounds
