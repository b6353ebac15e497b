use Rattle.std.proofs.Common.{◌≡◌, map, take}
use Rattle.fx_schemes.proofs.terms.texts.Given as goal

abbrev pub invariant-loop-label : goal.invariant-loop-label
invariant-loop-label l = l.texts ≡ map (λ t. t.now) (take l.label-index l.labels)
