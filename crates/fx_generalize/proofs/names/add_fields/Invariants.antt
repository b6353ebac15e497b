use Rattle.std.proofs.Common.{◌≡◌, false, None, take}
use Rattle.fx_types.specs.Ground.{listed}
use Rattle.fx_types.specs.Term.{Label}
use Rattle.fx_unify.specs.Part.{p_slot}
use Rattle.fx_unify.specs.Rows.{Grows}
use Rattle.fx_generalize.specs.Named.{place, is_field}
use Rattle.fx_generalize.proofs.names.add_fields.Given as goal

abbrev pub invariant-loop-name : goal.invariant-loop-name
invariant-loop-name l =
    ((k : Label) → listed k l.labels.items ≡ false → place (is_field (p_slot l.row k)) (take l.name-index l.fields) ≡ None) × Grows l.initial.labels.items l.labels.items
