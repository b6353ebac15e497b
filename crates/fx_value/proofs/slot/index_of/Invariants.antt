use Rattle.std.proofs.Common.{◌≡◌, drop}
use Rattle.std.specs.FinMap.Entries.{find}
use Rattle.fx_base.specs.Text.{text_cmp}
use Rattle.fx_value.specs.Slots.{entries_of}
use Rattle.fx_value.proofs.slot.index_of.Given as goal

abbrev pub invariant-loop-i : goal.invariant-loop-i
invariant-loop-i l = find text_cmp l.label (entries_of l.slots.items) ≡ find text_cmp l.label (entries_of (drop l.i l.slots.items))
