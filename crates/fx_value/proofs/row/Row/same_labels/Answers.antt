use Rattle.fx_value.proofs.Facts.{equal_along}
use Rattle.fx_value.proofs.Rows.{labels_are}
use Rattle.fx_value.proofs.row.Row.same_labels.Goals as goal

pub returns : goal.returns
returns c =
    equal_along _ _ _ _ _ (labels_are c.self.inside.first c.self.inside.second _ _ c.self.view_is)
    (labels_are c.other.inside.first c.other.inside.second _ _ c.other.view_is)
    c.are_same.ensures
