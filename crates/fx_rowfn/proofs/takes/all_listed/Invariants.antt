use Rattle.std.proofs.Common.{◌≡◌, ◌++◌, drop, map}
use Rattle.fx_meaning.specs.Native.{all_listed}
use Rattle.fx_values.specs.Shape.{slot, slots_of}
use Rattle.fx_rowfn.proofs.takes.all_listed.Given as goal

abbrev pub invariant-loop-first : goal.invariant-loop-first
invariant-loop-first l = all_listed (map (λ x. x.now) l.due ++ map (λ x. x.now) l.free) (slots_of (map slot l.args)) ≡ all_listed (map (λ x. x.now) l.due ++ map (λ x. x.now) l.free) (slots_of (map slot (drop l.first-index l.args)))
