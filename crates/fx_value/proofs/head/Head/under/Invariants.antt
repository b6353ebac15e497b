use Rattle.std.proofs.Common.{◌≡◌, take}
use Rattle.std.specs.FinMap as map
use Rattle.std.specs.FinMap.{from_sorted}
use Rattle.fx_base.specs.Text.{text_cmp}
use Rattle.fx_value.specs.Labels.{with_all}
use Rattle.fx_value.specs.Slots.{entries_of, IsRising}
use Rattle.fx_value.proofs.head.Head.under.Given as goal

abbrev pub invariant-loop-slot : goal.invariant-loop-slot
invariant-loop-slot l =
    IsRising (entries_of l.slots.items)
    × (from_sorted {R = text_cmp} (entries_of l.slots.items) ≡ with_all (take l.slot-index (map.entries l.over)) l.self)
