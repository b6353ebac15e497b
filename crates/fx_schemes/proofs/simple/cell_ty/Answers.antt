use Rattle.std.proofs.Common.{sym, ap, ◌∙◌}
use Rattle.fx_types.specs.Term.{is}
use Rattle.fx_types.proofs.ShapeLaws.{field_absent, field_is}
use Rattle.fx_schemes.specs.Plan.{cell_field}
use Rattle.fx_schemes.proofs.simple.cell_ty.Goals as goal

pub returns-in_ok-simple_ty-in-Some : goal.returns-in_ok-simple_ty-in-Some
returns-in_ok-simple_ty-in-Some c =
    field_is c.in_ok-simple_ty-in-Some.field-0 ∙ ap is c.in_ok-simple_ty-in-Some.ensures ∙ sym (ap cell_field c.in-Some.is)

pub returns-in-None : goal.returns-in-None
returns-in-None c = field_absent ∙ sym (ap cell_field c.in-None.is)
