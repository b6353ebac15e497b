use Rattle.std.proofs.Common.{ap, subst, sym, ◌∙◌}
use Rattle.fx_values.specs.Shape.{val}
use Rattle.fx_values.specs.Told.{Tells}
use Rattle.fx_values.proofs.FormLaws.{not_cell_or_span}
use Rattle.fx_values.proofs.ValueLaws.{val_cell, val_span}
use Rattle.fx_value.specs.Ends.{Stuck}
use Rattle.fx_meaning.specs.Operators.{binary, with_cell, with_span}
use Rattle.fx_values.proofs.operators.binary_values.Goals as goal

pub returns-in-Cell : goal.returns-in-Cell
returns-in-Cell c =
    subst (λ v. Tells val (binary c.args.place c.args.which v (val c.args.right.now)) c.with_cell.result)
    (sym (ap val c.in-Cell.is ∙ val_cell c.in-Cell.a)) c.with_cell.ensures

pub returns-in-Span : goal.returns-in-Span
returns-in-Span c =
    subst (λ v. Tells val (binary c.args.place c.args.which v (val c.args.right.now)) c.with_span.result)
    (sym (ap val c.in-Span.is ∙ val_span c.in-Span.d)) c.with_span.ensures

pub returns-in_default : goal.returns-in_default
returns-in_default c =
    not_cell_or_span (with_cell c.args.place c.args.which (val c.args.right.now)) (with_span c.args.which (val c.args.right.now)) Stuck
    c.args.left.now c.in_default.not-Cell c.in_default.not-Span
