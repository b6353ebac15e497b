use Rattle.std.proofs.Common.{◌≡◌, ◌≤◌, ◌<◌, get_or, length, refl, ap, subst, ◌∙◌}
use Rattle.std.specs.FinMap as map
use Rattle.fx_value.proofs.Heads.{still_rising, inserted}
use Rattle.fx_value.proofs.LabelLaws.{under_more, under_end}
use Rattle.fx_value.proofs.head.Head.under.Goals as goal

pub loop-slot-preserved : goal.loop-slot-preserved
loop-slot-preserved c =
    let list = c.deref-slot-items.ensures.value in
    let within : c.loop-slot.slot-index < length c.over.inside.slots.items = subst (λ xs. c.loop-slot.slot-index < length xs) list c.loop-slot-test.true in
    let item : c.slot-item.result ≡ get_or c.over.inside.slots.items c.loop-slot.slot-index c.slot-item.result = c.slot-item.is ∙ ap (λ xs. get_or xs c.loop-slot.slot-index c.slot-item.result) list in (
      still_rising c.loop-slot.slots.items _ refl c.loop-slot.invariant.0 c.in_ok-slots-2.slots.items _ _ c.in_ok-slots-2.ensures,
      inserted c.loop-slot.slots.items _ refl c.loop-slot.invariant.0 c.in_ok-slots-2.slots.items _ _ c.in_ok-slots-2.ensures
          ∙ (λ i. map.insert (c.loop-slot.invariant.1 i) c.slot-item.result.label (c.in_ok-copy.ensures i))
          ∙ under_more c.over.inside.slots.items c.args.over.now c.over.view_is c.over.invariant c.loop-slot.slot-index c.slot-item.result c.args.self.now within item,
    )

pub returns : goal.returns
returns c =
    c.loop-slot.invariant.1
    ∙ under_end c.over.inside.slots.items c.args.over.now c.over.view_is c.over.invariant c.loop-slot.slot-index c.args.self.now
    (subst (λ xs. length xs ≤ c.loop-slot.slot-index) c.deref-slot-items.ensures.value c.loop-slot-test.false)
