use Rattle.std.proofs.Common.{sym, ap, map, ◌∙◌}
use Rattle.fx_value.specs.Ends.{Gives}
use Rattle.fx_meaning.specs.Forms.{items_in}
use Rattle.fx_values.specs.Shape.{val, vals_of}
use Rattle.fx_values.proofs.FormLaws.{not_items}
use Rattle.fx_values.proofs.ValueLaws.{val_list}
use Rattle.fx_values.proofs.forms.items_in.Goals as goal

pub returns-in-List : goal.returns-in-List
returns-in-List c = ap items_in (ap val c.in-List.is ∙ val_list c.in-List.items) ∙ ap (λ vs. Gives (vals_of (map val vs)) 0) (sym c.as_ref.ensures)

pub returns-in_default : goal.returns-in_default
returns-in_default c = not_items c.args.value.now c.in_default.not-List
