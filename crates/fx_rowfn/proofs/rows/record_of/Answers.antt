use Rattle.std.proofs.Common.{map, ap, ◌∙◌}
use Rattle.std.specs.List.{flat_map}
use Rattle.fx_meaning.specs.Value.{rec}
use Rattle.fx_values.proofs.ValueLaws.{val_rec}
use Rattle.fx_values.specs.Shape.{slot, slots_of}
use Rattle.fx_rowfn.specs.Rows.{field_at}
use Rattle.fx_rowfn.proofs.RowLaws.{row_fields}
use Rattle.fx_rowfn.proofs.rows.record_of.Goals as goal

pub returns : goal.returns
returns c =
    val_rec c.in_ok-shared.shared
    ∙ ap rec (ap (λ l. slots_of (map slot l)) c.in_ok-shared.ensures.ok
    ∙ ap slots_of (c.in_ok-fields.ensures ∙ ap (flat_map (field_at c.args.row.now)) (c.as_slice.ensures ∙ c.in_ok-labels.ensures))
    ∙ row_fields c.args.row.now)
