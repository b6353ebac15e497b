use Rattle.std.proofs.Common.{refl}
use Rattle.fx_unify.proofs.RowLaws.{label_moved}
use Rattle.fx_unify.proofs.pick.label_fields.Goals as goal

pub loop-label-preserved : goal.loop-label-preserved
loop-label-preserved c =
    label_moved c.loop-label.fields c.push.new.self c.loop-label.yielded c.in-Some.field-0 c.in-Some.field-0.label c.in-Some.field-0.ty c.in_ok-push.ensures.ok refl refl
    c.loop-label.invariant
