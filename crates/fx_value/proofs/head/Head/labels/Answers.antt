use Rattle.fx_value.proofs.Facts.{ok_along}
use Rattle.fx_value.proofs.Heads.{labels_are}
use Rattle.fx_value.proofs.head.Head.labels.Goals as goal

pub returns : goal.returns
returns c =
    ok_along c.labels_in.result _ _ (labels_are c.self.inside.slots.items _ c.self.view_is c.self.invariant) c.labels_in.ensures
