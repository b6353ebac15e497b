use Rattle.std.proofs.Common.{◌↔◌, ◌≤◌, ◌+◌, max, take}
use Rattle.fx_types.specs.Instance.{Solution}
use Rattle.fx_types.specs.Raised.{from}
use Rattle.fx_unify.specs.Judge.{AreTypes}
use Rattle.fx_unify.specs.Solutions.{Solves, next_of}
use Rattle.fx_generalize.specs.Solved.{numbers_terms}
use Rattle.fx_generalize.proofs.used.ask_types.Given as goal

abbrev pub invariant-loop-ty : goal.invariant-loop-ty
invariant-loop-ty l =
    ((s : Solution) → Solves s l.asked ↔ (Solves s l.fn.bindings × AreTypes (from l.first s) (take l.ty-index l.types)))
    × (next_of l.asked ≤ max (next_of l.fn.bindings) (numbers_terms l.types + l.first))
    × (next_of l.fn.bindings ≤ next_of l.asked)
