use Rattle.fx_unify.proofs.RowLaws.{labels_row_is}
use Rattle.fx_unify.proofs.pick.labels_row.Goals as goal

pub returns : goal.returns
returns c = labels_row_is c.in_ok-label_fields.field-0 c.args.labels c.in_ok-label_fields.ensures
