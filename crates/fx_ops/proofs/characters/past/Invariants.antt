use Rattle.std.proofs.Common.{◌≡◌, ◌≤◌, drop, length}
use Rattle.std.specs.Str.{chars, IsUtf8}
use Rattle.fx_ops.proofs.characters.past.Given as goal

abbrev pub invariant-loop-place : goal.invariant-loop-place
invariant-loop-place l =
    (goal.iterator-loop-place).can_next l.rest × (goal.iterator-loop-place).is_finite l.rest × IsUtf8 l.rest.rest.now
    × (chars l.rest.rest.now ≡ drop l.place (chars l.text)) × (l.place ≤ length (chars l.text))
