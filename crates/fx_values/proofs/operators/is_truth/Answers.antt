use Rattle.std.proofs.Common.{ap, sym, ◌∙◌}
use Rattle.fx_meaning.specs.Operators.{is_truth}
use Rattle.fx_values.specs.Shape.{val}
use Rattle.fx_values.proofs.FormLaws.{not_truth}
use Rattle.fx_values.proofs.ValueLaws.{val_cell}
use Rattle.fx_values.proofs.operators.is_truth.Goals as goal

pub returns-in-Cell : goal.returns-in-Cell
returns-in-Cell c = c.is_truth_cell.ensures ∙ sym (ap (is_truth c.args.truth) (ap val c.in-Cell.is ∙ val_cell c.in-Cell.a))

pub returns-in_default : goal.returns-in_default
returns-in_default c = sym (not_truth c.args.truth c.args.value.now c.in_default.not-Cell)
