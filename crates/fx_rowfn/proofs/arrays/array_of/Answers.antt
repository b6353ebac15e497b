use Rattle.std.proofs.Common.{map, ap, sym, ◌∙◌}
use Rattle.fx_meaning.specs.Value.{array}
use Rattle.fx_value.specs.Ends.{Gives}
use Rattle.fx_values.specs.Shape.{val, vals_of}
use Rattle.fx_values.proofs.ValueLaws.{val_list}
use Rattle.fx_rowfn.proofs.arrays.array_of.Goals as goal

pub returns : goal.returns
returns c = ap (λ w. Gives w 0) (sym (val_list c.in_ok-items.items ∙ ap (λ vs. array (vals_of (map val vs))) c.in_ok-items.ensures.ok))
