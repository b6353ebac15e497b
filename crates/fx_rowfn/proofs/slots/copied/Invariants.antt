use Rattle.std.proofs.Common.{◌≡◌, map, take}
use Rattle.fx_values.specs.Shape.{slot}
use Rattle.fx_rowfn.proofs.slots.copied.Given as goal

abbrev pub invariant-loop-from : goal.invariant-loop-from
invariant-loop-from l = map slot l.made ≡ map slot (take l.from-index l.slots)
