use Rattle.std.proofs.Common.{◌≡◌, None, take}
use Rattle.fx_unify.specs.View.{part_seen}
use Rattle.fx_generalize.specs.Named.{place, is_field}
use Rattle.fx_generalize.proofs.names.Names.field_at.Given as goal

abbrev pub invariant-loop-i : goal.invariant-loop-i
invariant-loop-i l = place (is_field (part_seen l.view)) (take l.i l.name-items) ≡ None
