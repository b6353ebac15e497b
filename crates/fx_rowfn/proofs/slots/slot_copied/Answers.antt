use Rattle.std.proofs.Common.{sym, ◌∙◌}
use Rattle.fx_values.proofs.ValueLaws.{slot_is}
use Rattle.fx_rowfn.proofs.slots.slot_copied.Goals as goal

pub returns : goal.returns
returns c = c.slot_of.ensures ∙ (λ i. record { label = c.in_ok-copy.ensures i; value = c.in_ok-copy-2.ensures i }) ∙ sym (slot_is c.args.from.now)
