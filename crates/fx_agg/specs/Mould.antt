-- What the aggregate rows of a table have alike.
use Rattle.std.specs.Prelude.{◌≡◌, ℕ, List}
use Rattle.std.specs.FinMap as fin
use Rattle.fx_base.specs.Text.{text_cmp}
use Rattle.fx_value.specs.Change.{all_changed_head}
use Rattle.fx_value.specs.Row.{row_of}
use Rattle.fx_value.specs.declared.scalar.Scalar.{Scalar}
use Rattle.fx_value.specs.declared.scalar.Scalar.TheVariants.{Null}
use Rattle.fx_value.specs.declared.source.Source.{Source}
use Rattle.fx_data.specs.declared.key.Key.{Key}
use Rattle.fx_data.specs.declared.keyed_row.KeyedRow.{KeyedRow}
use Rattle.fx_agg.specs.declared.one_row.Mould.{Mould}
use Rattle.fx_agg.specs.OneRow.{key_changes, valued}

-- the columns that come from the key
abbrev pub key_head : Key → fin.FinMap text_cmp Source
key_head key = all_changed_head (key_changes key) fin.empty

-- the row of a value, with the key that it comes from
abbrev pub from_mould : Mould → Scalar → KeyedRow
from_mould mould value = record { key = mould.key; row = row_of mould.shape value Null }

-- its rows are the aggregate rows of this key and column
abbrev pub IsMould : Key → List ℕ → Mould → Type 0
IsMould key column mould = (value : Scalar) → from_mould mould value ≡ valued key column value
