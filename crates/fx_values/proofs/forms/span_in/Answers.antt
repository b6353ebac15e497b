use Rattle.std.proofs.Common.{ap, ◌∙◌}
use Rattle.fx_meaning.specs.Forms.{span_in}
use Rattle.fx_values.specs.Shape.{val}
use Rattle.fx_values.proofs.FormLaws.{not_span}
use Rattle.fx_values.proofs.ValueLaws.{val_span}
use Rattle.fx_values.proofs.forms.span_in.Goals as goal

pub returns-in-Span : goal.returns-in-Span
returns-in-Span c = ap span_in (ap val c.in-Span.is ∙ val_span c.in-Span.d)

pub returns-in_default : goal.returns-in_default
returns-in_default c = not_span c.args.value.now c.in_default.not-Span
