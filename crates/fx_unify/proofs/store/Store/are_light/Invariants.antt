use Rattle.std.proofs.Common.{drop}
use Rattle.fx_unify.specs.Light.{AreLight}
use Rattle.fx_unify.proofs.store.Store.are_light.Given as goal

abbrev pub invariant-loop-slot : goal.invariant-loop-slot
invariant-loop-slot l = AreLight l.self l.sorts (drop l.slot-index l.slots) → AreLight l.self l.sorts l.slots
