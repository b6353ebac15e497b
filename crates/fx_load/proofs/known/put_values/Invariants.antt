use Rattle.std.proofs.Common.{drop}
use Rattle.fx_load.proofs.KnownLemmas.{IsPuttingInts}
use Rattle.fx_load.proofs.known.put_values.Given as goal

abbrev pub invariant-loop-i : goal.invariant-loop-i
invariant-loop-i l = IsPuttingInts l.fn.store l.bucket l.numbers l.values l.time (drop l.i l.numbers) (drop l.i l.values) l.store
