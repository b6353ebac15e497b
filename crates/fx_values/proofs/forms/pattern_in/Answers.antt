use Rattle.std.proofs.Common.{ap, ◌∙◌}
use Rattle.fx_meaning.specs.Forms.{pattern_in}
use Rattle.fx_values.specs.Shape.{val}
use Rattle.fx_values.proofs.FormLaws.{not_pattern}
use Rattle.fx_values.proofs.ValueLaws.{val_pattern}
use Rattle.fx_values.proofs.forms.pattern_in.Goals as goal

pub returns-in-Pattern : goal.returns-in-Pattern
returns-in-Pattern c = ap pattern_in (ap val c.in-Pattern.is ∙ val_pattern c.in-Pattern.number)

pub returns-in_default : goal.returns-in_default
returns-in_default c = not_pattern c.args.value.now c.in_default.not-Pattern
