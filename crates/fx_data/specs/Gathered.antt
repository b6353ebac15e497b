-- Tables gathered under their keys.
use Rattle.std.specs.Prelude.{List, map, Option}
use Rattle.std.specs.Ordering.{eq_by_cmp}
use Rattle.std.specs.List.{filter, flat_map}
use Rattle.std.specs.FinMap.{FinMap, entries, from_entries, get}
use Rattle.fx_base.specs.Text.{text_cmp}
use Rattle.fx_value.specs.declared.scalar.Scalar.{Scalar}
use Rattle.fx_data.specs.declared.key.Key.{Key}
use Rattle.fx_data.specs.declared.table.Table.{Table}
use Rattle.fx_data.specs.Key.{key_cmp}

-- the rows of the tables with this key, in their order
abbrev pub rows_with : Key → List Table → List (FinMap text_cmp Scalar)
rows_with key ts = flat_map (λ t. t.rows) (filter (λ t. eq_by_cmp key_cmp key t.key) ts)

-- each key of a table, with all the rows that stand under it
unfoldable pub grouped : List Table → FinMap key_cmp (List (FinMap text_cmp Scalar))
grouped ts = from_entries (map (λ t. (t.key, rows_with t.key ts)) ts)

-- the rows that stand under a key, None where no table has it
abbrev pub rows_under : List Table → Key → Option (List (FinMap text_cmp Scalar))
rows_under ts key = get (grouped ts) key

-- a key and its rows as a table
abbrev pub table_of : Key × List (FinMap text_cmp Scalar) → Table
table_of e = record { key = e.0; rows = e.1 }

-- the tables in key order, where tables with one key become one whose rows are theirs, in order
unfoldable pub gathered : List Table → List Table
gathered ts = map table_of (entries (grouped ts))
