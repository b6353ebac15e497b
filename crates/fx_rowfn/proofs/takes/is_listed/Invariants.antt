use Rattle.std.proofs.Common.{◌≡◌, drop, map}
use Rattle.fx_types.specs.Ground.{listed}
use Rattle.fx_rowfn.proofs.takes.is_listed.Given as goal

abbrev pub invariant-loop-other : goal.invariant-loop-other
invariant-loop-other l = listed l.label (map (λ x. x.now) l.labels) ≡ listed l.label (map (λ x. x.now) (drop l.other-index l.labels))
