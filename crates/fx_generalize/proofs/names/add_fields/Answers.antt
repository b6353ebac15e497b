use Rattle.fx_unify.proofs.LabelLaws.{grows_more}
use Rattle.fx_generalize.proofs.NameLaws.{named_step}
use Rattle.fx_generalize.proofs.names.add_fields.Goals as goal

pub loop-name-preserved : goal.loop-name-preserved
loop-name-preserved c = (
  named_step c.args.row c.args.fields.now c.loop-name.name-index c.name-item.result c.loop-name.labels.items c.add_label.new.labels.items c.loop-name-test.true c.name-item.is c.in_ok-add_label.ensures.grows.0
      c.in_ok-add_label.ensures.there c.loop-name.invariant.0,
  grows_more c.args.labels.now.items c.loop-name.labels.items c.add_label.new.labels.items c.loop-name.invariant.1 c.in_ok-add_label.ensures.grows,
)
