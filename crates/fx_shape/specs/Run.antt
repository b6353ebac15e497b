-- Rows of one table on their way to their new keys.
use Rattle.std.specs.Prelude.{◌≡◌, ℕ, Bool, List, [], ◌∷◌, map}
use Rattle.std.specs.List.{list_any, AllByRecursion}
use Rattle.fx_base.specs.Text.{same_text}
use Rattle.fx_data.specs.declared.key.Key.{Key}
use Rattle.fx_data.specs.declared.keyed_row.KeyedRow.{KeyedRow}
use Rattle.fx_data.specs.Regrouped.{new_key}
use Rattle.fx_group.specs.Answer.{Row}

-- rows that come from a table with this key
abbrev pub keyed : Key → List Row → List KeyedRow
keyed key = map (λ row. record { key = key; row = row })

-- all of the rows have one new key
abbrev pub HaveOneKey : Key → List Row → Type 0
HaveOneKey key [] = Unit {0}
HaveOneKey key (first ∷ rows) = AllByRecursion (λ row. new_key key row ≡ new_key key first) rows

abbrev pub has_label : Key → List ℕ → Bool
has_label key label = list_any (λ e. same_text e.label label) key.entries
