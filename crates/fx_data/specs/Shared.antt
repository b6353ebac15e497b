-- The key of the values that rows share.
use Rattle.std.specs.Prelude.{ℕ, false, List, map}
use Rattle.std.specs.FinMap.{FinMap}
use Rattle.fx_base.specs.Text.{text_cmp}
use Rattle.fx_value.specs.declared.scalar.Scalar.{Scalar}
use Rattle.fx_value.specs.declared.source.Source.{Source}
use Rattle.fx_value.specs.Row.{shared}
use Rattle.fx_data.specs.declared.key.Key.{Key}
use Rattle.fx_data.specs.declared.key.KeyEntry.{KeyEntry}

-- a label and its value as a column by which a table is grouped
abbrev pub column_entry : List ℕ × Scalar → KeyEntry
column_entry cell = record { label = cell.0; value = cell.1; pinned = false }

-- the labels whose values all rows of a head share, with these values
abbrev pub key_of : FinMap text_cmp Source → Key
key_of head = record { entries = map column_entry (shared head) }
