use Rattle.std.proofs.Common.{◌≡◌, ◌++◌, drop, map}
use Rattle.std.specs.List.{list_all}
use Rattle.fx_ops.specs.Limit.{is_short}
use Rattle.fx_ops.proofs.parts.texts_of.Given as goal

abbrev pub invariant-loop-part : goal.invariant-loop-part
invariant-loop-part l =
    (l.texts ++ map (λ part. part.now) (drop l.part-index l.parts) ≡ map (λ part. part.now) l.parts)
    × (list_all is_short (map (λ part. part.now) (drop l.part-index l.parts)) ≡ list_all is_short (map (λ part. part.now) l.parts))
