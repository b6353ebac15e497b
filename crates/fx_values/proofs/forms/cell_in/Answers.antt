use Rattle.std.proofs.Common.{ap, ◌∙◌}
use Rattle.fx_meaning.specs.Forms.{cell_in}
use Rattle.fx_values.specs.Shape.{val}
use Rattle.fx_values.proofs.FormLaws.{not_cell}
use Rattle.fx_values.proofs.ValueLaws.{val_cell}
use Rattle.fx_values.proofs.forms.cell_in.Goals as goal

pub returns-in-Cell : goal.returns-in-Cell
returns-in-Cell c = ap cell_in (ap val c.in-Cell.is ∙ val_cell c.in-Cell.a)

pub returns-in_default : goal.returns-in_default
returns-in_default c = not_cell c.args.value.now c.in_default.not-Cell
