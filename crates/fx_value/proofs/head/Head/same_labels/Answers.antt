use Rattle.fx_value.proofs.Facts.{equal_along}
use Rattle.fx_value.proofs.Heads.{labels_are, texts_decide}
use Rattle.fx_value.proofs.head.Head.same_labels.Goals as goal

pub returns : goal.returns
returns c =
    equal_along _ _ _ _ _ (labels_are c.self.inside.slots.items _ c.self.view_is c.self.invariant)
    (labels_are c.other.inside.slots.items _ c.other.view_is c.other.invariant)
    (texts_decide _ _ c.have_same_labels.result c.have_same_labels.ensures)
