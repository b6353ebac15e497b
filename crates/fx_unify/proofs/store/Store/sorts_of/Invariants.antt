use Rattle.std.proofs.Common.{take}
use Rattle.fx_unify.proofs.BoundLaws.{Prefix}
use Rattle.fx_unify.proofs.store.Store.sorts_of.Given as goal

abbrev pub invariant-loop-bound : goal.invariant-loop-bound
invariant-loop-bound l = Prefix l.self l.sorts.items (take l.bound-index l.bounds)
