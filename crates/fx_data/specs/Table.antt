-- What tables obey.
use Rattle.std.specs.Prelude.{◌≡◌, List, map, Option, None, Some, if◌then◌else◌}
use Rattle.std.specs.List.{AllByRecursion}
use Rattle.std.specs.List.Sorted.{IsStrictlySortedBy}
use Rattle.std.specs.FinMap.{FinMap, get}
use Rattle.fx_base.specs.Text.{text_cmp}
use Rattle.fx_value.specs.declared.scalar.Scalar.{Scalar}
use Rattle.fx_data.specs.declared.key.Key.{Key}
use Rattle.fx_data.specs.declared.key.KeyEntry.{KeyEntry}
use Rattle.fx_data.specs.declared.table.Table.{Table}
use Rattle.fx_data.specs.Key.{key_cmp}

-- what each row has at the label of a key's entry: its value, and nothing if the entry is pinned
abbrev pub shown : KeyEntry → Option Scalar
shown e = if e.pinned then None else Some e.value

-- the row has at each label of the key what the key says
abbrev pub HasKey : List KeyEntry → FinMap text_cmp Scalar → Type 0
HasKey entries row = AllByRecursion (λ e. get row e.label ≡ shown e) entries

-- the labels of the key rise strictly by bytes
abbrev pub HasRisingLabels : Key → Type 0
HasRisingLabels key = IsStrictlySortedBy text_cmp (map (λ e. e.label) key.entries)

-- the labels of the key rise strictly by bytes, and each row has at each of them what the key says
pub record IsLawfulTable (t : Table) : Type 0 where
  pub rising : HasRisingLabels t.key
  pub columns : AllByRecursion (HasKey t.key.entries) t.rows

-- each table is lawful, and the keys rise strictly
pub record AreLawful (ts : List Table) : Type 0 where
  pub each : AllByRecursion IsLawfulTable ts
  pub rising : IsStrictlySortedBy key_cmp (map (λ t. t.key) ts)
