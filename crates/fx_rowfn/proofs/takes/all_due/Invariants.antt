use Rattle.std.proofs.Common.{◌≡◌, drop, map}
use Rattle.fx_meaning.specs.Native.{all_given}
use Rattle.fx_values.specs.Shape.{slot, slots_of}
use Rattle.fx_rowfn.proofs.takes.all_due.Given as goal

abbrev pub invariant-loop-label : goal.invariant-loop-label
invariant-loop-label l = all_given (map (λ x. x.now) l.labels) (slots_of (map slot l.args)) ≡ all_given (map (λ x. x.now) (drop l.label-index l.labels)) (slots_of (map slot l.args))
