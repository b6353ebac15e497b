use Rattle.fx_unify.specs.Part.{p_slot}
use Rattle.fx_generalize.specs.Named.{is_field}
use Rattle.fx_generalize.proofs.NameLaws.{place_miss, place_none}
use Rattle.fx_generalize.proofs.apart.has_slot.Goals as goal

pub loop-field-preserved : goal.loop-field-preserved
loop-field-preserved c =
    λ k. place_miss (is_field (p_slot c.args.row k)) c.args.fields.now c.loop-field.field-index c.field-item.result c.loop-field-test.true c.field-item.is (c.is_of_row.ensures c.if-is_of_row.false k) (c.loop-field.invariant k)

pub returns : goal.returns
returns c = λ e k. place_none (is_field (p_slot c.args.row k)) c.args.fields.now c.loop-field.field-index c.loop-field-test.false (c.loop-field.invariant k)
