-- A column that all rows of a table share.
use Rattle.std.specs.Prelude.{ℕ, Bool, false, List, map}
use Rattle.std.specs.FinMap.{insert}
use Rattle.std.specs.FinMap.Entries.{put}
use Rattle.fx_base.specs.Text.{text_cmp}
use Rattle.fx_value.specs.declared.scalar.Scalar.{Scalar}
use Rattle.fx_data.specs.declared.key.Key.{Key}
use Rattle.fx_data.specs.declared.key.KeyEntry.{KeyEntry}
use Rattle.fx_data.specs.declared.table.Table.{Table}

-- a label, and what stands at it
abbrev pub parts_of : KeyEntry → List ℕ × (Scalar × Bool)
parts_of e = (e.label, (e.value, e.pinned))

abbrev pub entry_of : List ℕ × (Scalar × Bool) → KeyEntry
entry_of p = record { label = p.0; value = p.1.0; pinned = p.1.1 }

-- the key with this column, which stands at the place of its label, or over the entry that is there
abbrev pub key_with : Key → List ℕ → Scalar → Key
key_with key label value = record { entries = map entry_of (put text_cmp label (value, false) (map parts_of key.entries)) }

-- the table with this value in a column of each row and of the key
abbrev pub with_column : List ℕ → Scalar → Table → Table
with_column label value t = record { key = key_with t.key label value; rows = map (λ row. insert row label value) t.rows }
