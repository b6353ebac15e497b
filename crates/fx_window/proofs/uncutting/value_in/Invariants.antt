use Rattle.std.proofs.Common.{◌≡◌, map, drop}
use Rattle.std.specs.FinMap.Entries.{find}
use Rattle.fx_base.specs.Text.{text_cmp}
use Rattle.fx_window.specs.Uncut.{value_of, value_in}
use Rattle.fx_window.proofs.uncutting.value_in.Given as goal

abbrev pub invariant-loop-entry : goal.invariant-loop-entry
invariant-loop-entry l = find text_cmp l.label (map value_of (drop l.entry-index l.key.entries)) ≡ value_in l.key l.label
