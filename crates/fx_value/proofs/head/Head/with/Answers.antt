use Rattle.fx_value.proofs.Heads.{still_rising, inserted}
use Rattle.fx_value.proofs.head.Head.with.Goals as goal

pub invariant_of-result : goal.invariant_of-result
invariant_of-result c =
    still_rising c.self.inside.slots.items _ c.self.view_is c.self.invariant _ _ _ c.in_ok-slots.ensures

pub returns : goal.returns
returns c =
    inserted c.self.inside.slots.items _ c.self.view_is c.self.invariant _ _ _ c.in_ok-slots.ensures
