use Rattle.std.proofs.Common.{◌≡◌, List, ◌<◌, length, get_or, sym, ap, subst, ◌∙◌}
use Rattle.fx_value.specs.declared.slot.Slot.{Slot}
use Rattle.fx_value.proofs.Heads.{found_here, found_later}
use Rattle.fx_value.proofs.slot.index_of.Goals as goal

pub returns-then-eq : goal.returns-then-eq
returns-then-eq c =
    let list = c.deref-slot-items.ensures.value in
    let below : c.loop-i.i < length c.args.slots.now.items = subst (λ (xs : List Slot). c.loop-i.i < length xs) list c.loop-i-test.true in
    let item : c.slot-item.result ≡ get_or c.args.slots.now.items c.loop-i.i c.slot-item.result = c.slot-item.is ∙ ap (λ (xs : List Slot). get_or xs c.loop-i.i c.slot-item.result) list in
    found_here c.args.slots.now.items c.args.label.now c.loop-i.i c.slot-item.result below item (sym c.eq.ensures ∙ c.if-eq.true) c.loop-i.invariant

pub loop-i-preserved : goal.loop-i-preserved
loop-i-preserved c =
    let list = c.deref-slot-items.ensures.value in
    let below : c.loop-i.i < length c.args.slots.now.items = subst (λ (xs : List Slot). c.loop-i.i < length xs) list c.loop-i-test.true in
    let item : c.slot-item.result ≡ get_or c.args.slots.now.items c.loop-i.i c.slot-item.result = c.slot-item.is ∙ ap (λ (xs : List Slot). get_or xs c.loop-i.i c.slot-item.result) list in
    found_later c.args.slots.now.items c.args.label.now c.loop-i.i c.slot-item.result below item (sym c.eq.ensures ∙ c.if-eq.false) c.loop-i.invariant
