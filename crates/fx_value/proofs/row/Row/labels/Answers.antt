use Rattle.fx_value.proofs.Facts.{ok_along}
use Rattle.fx_value.proofs.Rows.{labels_are}
use Rattle.fx_value.proofs.row.Row.labels.Goals as goal

pub returns : goal.returns
returns c =
    ok_along c.list.result _ _ (labels_are c.self.inside.first c.self.inside.second _ _ c.self.view_is) c.list.ensures
