use Rattle.std.proofs.Common.{◌≡◌, map}
use Rattle.fx_types.specs.Shape.{entry_term}
use Rattle.fx_unify.specs.Rows.{as_field}
use Rattle.fx_unify.proofs.pick.label_fields.Given as goal

abbrev pub invariant-loop-label : goal.invariant-loop-label
invariant-loop-label l = map entry_term l.fields ≡ map as_field l.yielded
