use Rattle.std.proofs.Common.{◌≡◌, ◌↔◌, true, take}
use Rattle.fx_types.specs.Ground.{Ground}
use Rattle.fx_types.specs.Kinds.{IsAmong}
use Rattle.fx_unify.specs.Sorts.{allows}
use Rattle.fx_unify.proofs.sorts.Sorts.of.Given as goal

abbrev pub invariant-loop-kind : goal.invariant-loop-kind
invariant-loop-kind l = (g : Ground) → (allows l.sorts g ≡ true) ↔ IsAmong (take l.kind-index l.kinds) l.fn.span g
