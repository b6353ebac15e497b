use Rattle.std.proofs.Common.{◌≡◌, max, drop}
use Rattle.fx_generalize.specs.Solved.{numbers_terms}
use Rattle.fx_generalize.proofs.solved.numbers_of.Given as goal

abbrev pub invariant-loop-ty : goal.invariant-loop-ty
invariant-loop-ty l = max l.greatest (numbers_terms (drop l.ty-index l.types)) ≡ numbers_terms l.types
