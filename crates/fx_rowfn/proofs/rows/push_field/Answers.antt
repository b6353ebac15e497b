use Rattle.std.proofs.Common.{sym, ap, ◌∙◌}
use Rattle.std.specs.Prelude.{option_map}
use Rattle.fx_meaning.specs.Value.{cell}
use Rattle.fx_values.proofs.ValueLaws.{val_cell}
use Rattle.fx_rowfn.proofs.RowLaws.{field_pushed}
use Rattle.fx_rowfn.proofs.rows.push_field.Goals as goal

pub returns-in_ok-push-in-Some : goal.returns-in_ok-push-in-Some
returns-in_ok-push-in-Some c =
    field_pushed c.args.row.now c.args.label.now c.in-Some.value.now c.args.made.now c.push.new.self c.slot_of-field.result c.in_ok-push-in-Some.ensures.ok
    (c.slot_of-field.ensures ∙ (λ i. record { label = c.in_ok-copy-in-Some.ensures i; value = (val_cell c.in_ok-copy-in-Some-2.field-0 ∙ ap cell c.in_ok-copy-in-Some-2.ensures) i }))
    (sym c.get.ensures ∙ ap (option_map (λ v. v.now)) c.in-Some.is)
