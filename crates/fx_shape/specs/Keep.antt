-- Columns that are left out.
use Rattle.std.specs.Prelude.{Bool, not, List, map}
use Rattle.std.specs.FinMap.{retain_keys}
use Rattle.std.specs.List.{filter}
use Rattle.fx_data.specs.Gathered.{gathered}
use Rattle.fx_data.specs.declared.key.Key.{Key}
use Rattle.fx_data.specs.declared.table.Table.{Table}
use Rattle.fx_group.specs.Group.{is_listed}
use Rattle.fx_shape.specs.Columns.{Label}

-- the entries of the labels that stay, pinned or not
abbrev pub key_left : (Label → Bool) → Key → Key
key_left stays key = record { entries = filter (λ e. stays e.label) key.entries }

-- the rows of a table have its key, so what is left of them has what is left of the key
abbrev pub table_left : (Label → Bool) → Table → Table
table_left stays t = record { key = key_left stays t.key; rows = map (λ row. retain_keys row stays) t.rows }

-- the columns that stay, collected by key
abbrev pub columns_left : (Label → Bool) → List Table → List Table
columns_left stays tables = gathered (map (table_left stays) tables)

-- `keep`: the listed columns alone
unfoldable pub columns_kept : List Label → List Table → List Table
columns_kept columns = columns_left (is_listed columns)

-- `drop`: all columns but these
unfoldable pub columns_dropped : List Label → List Table → List Table
columns_dropped columns = columns_left (λ label. not (is_listed columns label))
