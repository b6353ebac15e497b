use Rattle.std.proofs.Common.{map, ap, sym, ◌∙◌}
use Rattle.fx_meaning.specs.Value.{rec}
use Rattle.fx_value.specs.Ends.{Gives}
use Rattle.fx_values.specs.Shape.{slot, slots_of}
use Rattle.fx_values.proofs.ValueLaws.{val_rec}
use Rattle.fx_rowfn.proofs.records.record_of.Goals as goal

pub returns : goal.returns
returns c = ap (λ w. Gives w 0) (sym (val_rec c.in_ok-fields.fields ∙ ap (λ ss. rec (slots_of (map slot ss))) c.in_ok-fields.ensures.ok))
