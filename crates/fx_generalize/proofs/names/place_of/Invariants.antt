use Rattle.std.proofs.Common.{◌≡◌, None, take}
use Rattle.std.specs.Prelude.{◌==◌}
use Rattle.fx_generalize.specs.Named.{place}
use Rattle.fx_generalize.proofs.names.place_of.Given as goal

abbrev pub invariant-loop-i : goal.invariant-loop-i
invariant-loop-i l = place (λ n. l.number == n) (take l.i l.numbers) ≡ None
