use Rattle.std.proofs.Common.{◌↔◌, ◌≤◌, take}
use Rattle.fx_types.specs.Instance.{Solution}
use Rattle.fx_types.specs.Raised.{from}
use Rattle.fx_schemes.specs.Scheme.{Keeps}
use Rattle.fx_unify.specs.Solutions.{Solves, next_of}
use Rattle.fx_infer.proofs.uses.ask_bounds.Given as goal

abbrev pub invariant-loop-bound : goal.invariant-loop-bound
invariant-loop-bound l =
    ((s : Solution) → Solves s l.asked ↔ (Solves s l.fn.bindings × Keeps (from l.first s) (take l.bound-index l.bounds)))
    × (next_of l.fn.bindings ≤ next_of l.asked)
