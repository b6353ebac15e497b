use Rattle.std.proofs.Common.{refl, ap}
use Rattle.fx_types.proofs.ShapeLaws.{field_absent, field_is, field_var}
use Rattle.fx_unify.specs.Part.{p_is}
use Rattle.fx_types.specs.Shape.{term}
use Rattle.fx_unify.proofs.field.Field.of.Goals as goal

pub returns-in-Absent : goal.returns-in-Absent
returns-in-Absent c = rw (c.in-Absent.is, field_absent) refl

pub returns-in_ok-copy-in-Is : goal.returns-in_ok-copy-in-Is
returns-in_ok-copy-in-Is c = rw (c.in-Is.is, field_is) (ap (λ t. p_is (term t)) c.in_ok-copy-in-Is.ensures)

pub returns-in-Var : goal.returns-in-Var
returns-in-Var c = rw (c.in-Var.is, field_var) refl
