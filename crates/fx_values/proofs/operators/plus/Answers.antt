use Rattle.std.proofs.Common.{ap, subst, sym, ◌∙◌}
use Rattle.fx_values.specs.Shape.{val}
use Rattle.fx_values.specs.Told.{Tells}
use Rattle.fx_values.proofs.FormLaws.{not_cell_or_span}
use Rattle.fx_values.proofs.ValueLaws.{val_cell, val_span}
use Rattle.fx_value.specs.Ends.{Stuck}
use Rattle.fx_meaning.specs.Ends.{pure}
use Rattle.fx_meaning.specs.Operators.{plus, plus_cell}
use Rattle.fx_meaning.specs.Value.{span}
use Rattle.fx_values.proofs.operators.plus.Goals as goal

pub returns-in-Cell : goal.returns-in-Cell
returns-in-Cell c = subst (λ v. Tells val (plus v) c.plus_cell.result) (sym (ap val c.in-Cell.is ∙ val_cell c.in-Cell.a)) c.plus_cell.ensures

pub returns-in-Span : goal.returns-in-Span
returns-in-Span c = ap plus (ap val c.in-Span.is ∙ val_span c.in-Span.d) ∙ ap pure (sym (val_span c.in-Span.d))

pub returns-in_default : goal.returns-in_default
returns-in_default c = not_cell_or_span plus_cell (λ d. pure (span d)) Stuck c.args.value.now c.in_default.not-Cell c.in_default.not-Span
