use Rattle.std.proofs.Common.{take}
use Rattle.fx_unify.specs.Known.{Knows}
use Rattle.fx_unify.specs.Store.{KeptAt, apart_of}
use Rattle.fx_unify.proofs.store.Store.keep_all.Given as goal

abbrev pub invariant-loop-label : goal.invariant-loop-label
invariant-loop-label l = KeptAt l.initial.self l.self l.row (take l.label-index l.labels)

abbrev pub invariant-loop-label-2 : goal.invariant-loop-label-2
invariant-loop-label-2 l = KeptAt l.initial.self l.self l.row (take l.label-index l.labels) × Knows l.known (apart_of l.self l.row)
