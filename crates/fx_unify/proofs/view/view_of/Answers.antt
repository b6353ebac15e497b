use Rattle.std.proofs.Common.{refl}
use Rattle.fx_types.proofs.ShapeLaws.{field_absent, field_is, field_var}
use Rattle.fx_unify.proofs.view.view_of.Goals as goal

pub returns-in-Absent : goal.returns-in-Absent
returns-in-Absent c = rw (c.in-Absent.is, field_absent) refl

pub returns-in-Is : goal.returns-in-Is
returns-in-Is c = rw (c.in-Is.is, field_is) refl

pub returns-in-Var : goal.returns-in-Var
returns-in-Var c = rw (c.in-Var.is, field_var) refl
