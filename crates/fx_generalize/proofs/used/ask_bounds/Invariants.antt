use Rattle.std.proofs.Common.{◌↔◌, ◌≤◌, ◌+◌, max, take}
use Rattle.fx_types.specs.Instance.{Solution}
use Rattle.fx_types.specs.Raised.{from}
use Rattle.fx_unify.specs.Solutions.{Solves, next_of}
use Rattle.fx_generalize.specs.Solved.{KeepsKinds, numbers_bounds}
use Rattle.fx_generalize.proofs.used.ask_bounds.Given as goal

abbrev pub invariant-loop-bound : goal.invariant-loop-bound
invariant-loop-bound l =
    ((s : Solution) → Solves s l.asked ↔ (Solves s l.fn.bindings × KeepsKinds (from l.first s) (take l.bound-index l.bounds)))
    × (next_of l.asked ≤ max (next_of l.fn.bindings) (numbers_bounds l.bounds + l.first))
    × (next_of l.fn.bindings ≤ next_of l.asked)
