use Rattle.std.proofs.Common.{◌≡◌, ◌+◌, ◌==◌, not, take}
use Rattle.std.specs.List.{suffix_len}
use Rattle.fx_top.proofs.place.column_at.Given as goal

abbrev pub invariant-loop-i : goal.invariant-loop-i
invariant-loop-i l = l.column ≡ suffix_len (λ b. not (b == 10)) (take l.i l.front) + 1
