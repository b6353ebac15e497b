use Rattle.std.proofs.Common.{◌≡◌, None, take}
use Rattle.fx_types.specs.Term.{Label}
use Rattle.fx_unify.specs.Part.{p_slot}
use Rattle.fx_generalize.specs.Named.{place, is_field}
use Rattle.fx_generalize.proofs.apart.has_slot.Given as goal

abbrev pub invariant-loop-field : goal.invariant-loop-field
invariant-loop-field l = (k : Label) → place (is_field (p_slot l.row k)) (take l.field-index l.fields) ≡ None
