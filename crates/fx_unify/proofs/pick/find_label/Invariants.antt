use Rattle.std.proofs.Common.{◌≡◌, ℕ, ◌+◌, drop}
use Rattle.fx_types.specs.Ground.{listed}
use Rattle.fx_unify.specs.Pick.{IsFirst}
use Rattle.fx_unify.specs.Sums.{names}
use Rattle.fx_unify.proofs.pick.find_label.Given as goal

abbrev pub invariant-loop-i : goal.invariant-loop-i
invariant-loop-i l =
    (listed l.label (names l.entries) ≡ listed l.label (names (drop l.i l.entries)))
    × ((k : ℕ) → IsFirst l.label (names (drop l.i l.entries)) k → IsFirst l.label (names l.entries) (l.i + k))
