use Rattle.std.proofs.Common.{sym, ap, ◌∙◌}
use Rattle.std.specs.Prelude.{None, Some}
use Rattle.fx_value.specs.declared.slot.Slot.{Slot}
use Rattle.fx_value.proofs.Heads.{get_found}
use Rattle.fx_value.proofs.head.Head.get_near.Goals as goal

pub returns-in-Some : goal.returns-in-Some
returns-in-Some c =
    get_found c.self.inside.slots.items _ c.self.view_is c.self.invariant _ _
    (c.in-Some.ensures.source c.index.result.now ∙ ap (λ (s : Slot). Some s.source) (sym c.index.ensures))

pub returns-in-None : goal.returns-in-None
returns-in-None c = get_found c.self.inside.slots.items _ c.self.view_is c.self.invariant _ None c.in-None.ensures
