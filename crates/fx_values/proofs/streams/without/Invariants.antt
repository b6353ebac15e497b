use Rattle.std.proofs.Common.{◌≡◌, map, take}
use Rattle.std.specs.Prelude.{not}
use Rattle.std.specs.List.{filter}
use Rattle.fx_types.specs.Ground.{listed}
use Rattle.fx_values.specs.Shape.{slot}
use Rattle.fx_values.proofs.streams.without.Given as goal

abbrev pub invariant-loop-slot : goal.invariant-loop-slot
invariant-loop-slot l = map slot l.kept ≡ filter (λ o. not (listed o.label (map (λ x. x.now) l.labels))) (map slot (take l.slot-index l.slots))
