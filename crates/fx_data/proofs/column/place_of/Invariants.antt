use Rattle.std.proofs.Common.{◌≡◌, ◌+◌, map, drop}
use Rattle.fx_base.specs.Text.{text_cmp}
use Rattle.fx_value.specs.Place.{before, hits}
use Rattle.fx_data.specs.Columns.{parts_of}
use Rattle.fx_data.proofs.column.place_of.Given as goal

abbrev pub invariant-loop-i : goal.invariant-loop-i
invariant-loop-i l =
    (before text_cmp l.label (map parts_of l.entries.items) ≡ l.i + before text_cmp l.label (map parts_of (drop l.i l.entries.items)))
    × (hits text_cmp l.label (map parts_of l.entries.items) ≡ hits text_cmp l.label (map parts_of (drop l.i l.entries.items)))
