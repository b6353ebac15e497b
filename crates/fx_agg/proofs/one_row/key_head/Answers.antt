use Rattle.std.proofs.Common.{List, map, drop_of_length-le, sym, ap, ◌∙◌, arith}
use Rattle.std.specs.List.{filter}
use Rattle.fx_data.specs.declared.key.KeyEntry.{KeyEntry}
use Rattle.fx_value.specs.Change.{all_changed_head}
use Rattle.fx_agg.specs.OneRow.{is_shown, set_entry}
use Rattle.fx_agg.proofs.one_row.key_head.Goals as goal

pub returns : goal.returns
returns c =
    ap (λ (es : List KeyEntry). all_changed_head (map set_entry (filter is_shown es)) c.loop-entry.head)
    (sym (drop_of_length-le c.as_slice-entries.result.now (omega arith))) ∙ c.loop-entry.invariant
