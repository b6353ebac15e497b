use Rattle.std.proofs.Common.{◌≡◌, take}
use Rattle.fx_types.specs.Ground.{listed}
use Rattle.fx_types.specs.Term.{Label}
use Rattle.fx_unify.proofs.known.hash_all.Given as goal

abbrev pub invariant-loop-label : goal.invariant-loop-label
invariant-loop-label l = (x : Label) → listed x l.hashed.keys ≡ listed x (take l.label-index l.labels)
