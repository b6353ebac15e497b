use Rattle.fx_value.proofs.Heads.{rising_without, removed}
use Rattle.fx_value.proofs.head.Head.without.Goals as goal

pub invariant_of-result : goal.invariant_of-result
invariant_of-result c = rising_without c.self.inside.slots.items _ c.self.view_is c.self.invariant _ _ c.in_ok-slots.ensures

pub returns : goal.returns
returns c = removed c.self.inside.slots.items _ c.self.view_is c.self.invariant _ _ c.in_ok-slots.ensures
