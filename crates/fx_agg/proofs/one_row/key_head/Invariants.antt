use Rattle.std.proofs.Common.{◌≡◌, map, drop}
use Rattle.std.specs.List.{filter}
use Rattle.fx_value.specs.Change.{all_changed_head}
use Rattle.fx_agg.specs.Mould.{key_head}
use Rattle.fx_agg.specs.OneRow.{is_shown, set_entry}
use Rattle.fx_agg.proofs.one_row.key_head.Given as goal

-- what is left of the key changes the head to that of the whole key
abbrev pub invariant-loop-entry : goal.invariant-loop-entry
invariant-loop-entry l = all_changed_head (map set_entry (filter is_shown (drop l.entry-index l.entries))) l.head ≡ key_head l.key
