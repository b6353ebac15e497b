use Rattle.std.proofs.Common.{ℕ, take}
use Rattle.fx_unify.specs.Counted.{Counted}
use Rattle.fx_unify.specs.Judge.{AreFixed}
use Rattle.fx_unify.specs.Measure.{least}
use Rattle.fx_unify.proofs.store.Store.check_terms.Given as goal

abbrev pub invariant-loop-ty : goal.invariant-loop-ty
invariant-loop-ty l = ((k : ℕ) × AreFixed (least l.self l.sorts) (take l.ty-index l.terms) k) × Counted l.self l.sorts l.counts
