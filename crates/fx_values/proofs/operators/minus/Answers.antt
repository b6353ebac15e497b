use Rattle.std.proofs.Common.{ap, subst, sym, ◌∙◌}
use Rattle.fx_values.specs.Shape.{val}
use Rattle.fx_values.specs.Told.{Tells}
use Rattle.fx_values.proofs.FormLaws.{not_cell_or_span}
use Rattle.fx_values.proofs.ValueLaws.{val_cell, val_span}
use Rattle.fx_value.specs.Ends.{Stuck}
use Rattle.fx_meaning.specs.Operators.{minus, minus_cell, minus_span}
use Rattle.fx_values.proofs.operators.minus.Goals as goal

pub returns-in-Cell : goal.returns-in-Cell
returns-in-Cell c =
    subst (λ v. Tells val (minus c.args.place v) c.minus_cell.result) (sym (ap val c.in-Cell.is ∙ val_cell c.in-Cell.a)) c.minus_cell.ensures

pub returns-in-Span : goal.returns-in-Span
returns-in-Span c =
    subst (λ v. Tells val (minus c.args.place v) c.minus_span.result) (sym (ap val c.in-Span.is ∙ val_span c.in-Span.d)) c.minus_span.ensures

pub returns-in_default : goal.returns-in_default
returns-in_default c =
    not_cell_or_span (minus_cell c.args.place) (minus_span c.args.place) Stuck c.args.value.now c.in_default.not-Cell c.in_default.not-Span
