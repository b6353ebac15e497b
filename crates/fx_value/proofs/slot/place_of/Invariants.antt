use Rattle.std.proofs.Common.{◌≡◌, ◌+◌, drop}
use Rattle.fx_base.specs.Text.{text_cmp}
use Rattle.fx_value.specs.Place.{before, hits}
use Rattle.fx_value.specs.Slots.{entries_of}
use Rattle.fx_value.proofs.slot.place_of.Given as goal

abbrev pub invariant-loop-i : goal.invariant-loop-i
invariant-loop-i l =
    (before text_cmp l.label (entries_of l.slots.items) ≡ l.i + before text_cmp l.label (entries_of (drop l.i l.slots.items)))
    × (hits text_cmp l.label (entries_of l.slots.items) ≡ hits text_cmp l.label (entries_of (drop l.i l.slots.items)))
