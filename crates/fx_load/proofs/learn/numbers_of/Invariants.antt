use Rattle.fx_load.specs.Memo.{ids_of}
use Rattle.fx_load.proofs.KnownLemmas.{NumbersFrom}
use Rattle.fx_load.proofs.learn.numbers_of.Given as goal

abbrev pub invariant-loop-point : goal.invariant-loop-point
invariant-loop-point l = NumbersFrom (ids_of l.store) l.bucket l.points l.point-index l.numbers.items
