use Rattle.std.proofs.Common.{◌≡◌, ◌++◌, length, map}
use denote.Shadow.{shadow}
use denote.Text.{Utf8}
use Rattle.fx_ops.specs.Parts.{parts_past}
use Rattle.fx_ops.proofs.parts.cut.Given as goal

abbrev pub invariant-parts : goal.invariant-parts
invariant-parts l =
    shadow (Utf8 l.rest) × (map (λ part. part.now) l.found.items ++ parts_past l.by 0 l.rest ≡ parts_past l.by 0 l.text)

abbrev pub decreases-parts : goal.decreases-parts
decreases-parts l = length l.rest
