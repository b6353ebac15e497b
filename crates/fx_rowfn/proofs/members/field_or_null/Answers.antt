use Rattle.std.proofs.Common.{ap, map, ◌∙◌}
use Rattle.fx_meaning.specs.Operators.{or_null}
use Rattle.fx_meaning.specs.Value.{look}
use Rattle.fx_value.specs.declared.scalar.Scalar.TheVariants as scalar
use Rattle.fx_values.specs.Shape.{slot, slots_of}
use Rattle.fx_values.proofs.ValueLaws.{val_cell}
use Rattle.fx_rowfn.proofs.members.field_or_null.Goals as goal

pub returns-in-None : goal.returns-in-None
returns-in-None c =
    val_cell scalar.Null ∙ ap or_null (c.in-None.ensures ∙ (λ i. look (c.as_str.ensures i) (slots_of (map slot c.args.fields.now))))
