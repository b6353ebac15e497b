use Rattle.fx_value.proofs.Heads.{labels_are}
use Rattle.fx_value.proofs.LabelLaws.{slots_there}
use Rattle.fx_value.proofs.head.Head.is_in.Goals as goal

pub returns : goal.returns
returns c =
    slots_there c.args.labels.now c.args.self.now c.self.inside.slots.items c.are_in.result
    (labels_are c.self.inside.slots.items _ c.self.view_is c.self.invariant) c.are_in.ensures
