-- Windows of a table put together again.
use Rattle.std.specs.Prelude.{ℤ, ℕ, List, map, Option, Some, codes}
use Rattle.std.specs.FinMap.{insert}
use Rattle.std.specs.FinMap.Entries.{find}
use Rattle.fx_base.specs.Text.{text_cmp}
use Rattle.fx_value.specs.declared.scalar.Scalar.{Scalar}
use Rattle.fx_value.specs.declared.scalar.Scalar.TheVariants.{Time}
use Rattle.fx_value.specs.Ends.{End, Gives, Stuck, and_then}
use Rattle.fx_value.specs.Works.{flat_each}
use Rattle.fx_data.specs.declared.key.Key.{Key}
use Rattle.fx_data.specs.declared.key.KeyEntry.{KeyEntry}
use Rattle.fx_data.specs.declared.keyed_row.KeyedRow.{KeyedRow}
use Rattle.fx_data.specs.declared.table.Table.{Table}
use Rattle.fx_group.specs.Answer.{Row}
use Rattle.fx_group.specs.RangeRows.{set_row}
use Rattle.fx_window.specs.declared.cutting.CutTable.{CutTable}

abbrev pub value_of : KeyEntry → List ℕ × Scalar
value_of e = (e.label, e.value)

-- the value under a label of a key
abbrev pub value_in : Key → List ℕ → Option Scalar
value_in key label = find text_cmp label (map value_of key.entries)

-- a key has a time under `_stop`
abbrev pub stop_by : Option Scalar → End ℤ
stop_by (Some (Time t)) = Gives t 0
stop_by value = Stuck

-- the row at the stop of its window, with the bounds of the whole, also in the key
abbrev pub uncut_row : ℤ → ℤ → Key → ℤ → Row → KeyedRow
uncut_row start stop key last row = set_row start stop key (insert row (codes "_time") (Time last))

abbrev pub uncut_window : ℤ → ℤ → Table → End (List KeyedRow)
uncut_window start stop t = and_then (stop_by (value_in t.key (codes "_stop"))) (λ last. Gives (map (uncut_row start stop t.key last) t.rows) 0)

-- `uncut`: the rows of the windows, in the order of the windows
unfoldable pub uncut_of : CutTable → End (List KeyedRow)
uncut_of parts = flat_each (uncut_window parts.start parts.stop) parts.windows
