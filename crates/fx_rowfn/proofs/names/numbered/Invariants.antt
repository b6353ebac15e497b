use Rattle.std.proofs.Common.{◌≡◌, drop}
use Rattle.fx_meaning.specs.Meaning.{numbered}
use Rattle.fx_rowfn.proofs.names.numbered.Given as goal

abbrev pub invariant-loop-pattern : goal.invariant-loop-pattern
invariant-loop-pattern l = numbered l.placed l.place ≡ numbered (drop l.pattern-index l.placed) l.place
