use Rattle.std.proofs.Common.{sym, ap, map, ◌∙◌}
use Rattle.fx_value.specs.Ends.{Gives}
use Rattle.fx_meaning.specs.Forms.{fields_in}
use Rattle.fx_values.specs.Shape.{slot, slots_of, val}
use Rattle.fx_values.proofs.FormLaws.{not_fields}
use Rattle.fx_values.proofs.ValueLaws.{val_rec}
use Rattle.fx_values.proofs.forms.fields_in.Goals as goal

pub returns-in-Rec : goal.returns-in-Rec
returns-in-Rec c = ap fields_in (ap val c.in-Rec.is ∙ val_rec c.in-Rec.fields) ∙ ap (λ ss. Gives (slots_of (map slot ss)) 0) (sym c.as_ref.ensures)

pub returns-in_default : goal.returns-in_default
returns-in_default c = not_fields c.args.value.now c.in_default.not-Rec
