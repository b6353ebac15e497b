use Rattle.std.proofs.Common.{◌≡◌, ◌<◌, length, get_or, ap, sym, ◌∙◌, arith, rules}
use Rattle.fx_value.proofs.Heads.{found_by_order}
use Rattle.fx_value.proofs.slot.index_near.Goals as goal

pub returns-then-eq : goal.returns-then-eq
returns-then-eq c =
    let within : c.loop-i.i < length c.args.slots.now.items = search rules in
    found_by_order c.args.slots.now.items c.args.label.now c.loop-i.i c.index.result.now c.requires within c.index.ensures
    (sym c.eq.ensures ∙ c.if-eq.true)
