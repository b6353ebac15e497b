use Rattle.std.proofs.Common.{◌≡◌, take}
use Rattle.fx_rowfn.proofs.functions.params_copied.Given as goal

abbrev pub invariant-loop-from : goal.invariant-loop-from
invariant-loop-from l = l.made ≡ take l.from-index l.params
