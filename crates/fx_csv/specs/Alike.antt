-- Tables whose rows have the same labels.
use Rattle.std.specs.Prelude.{◌≡◌, List, [], ◌∷◌}
use Rattle.std.specs.List.{AllByRecursion}
use Rattle.std.specs.FinMap as map
use Rattle.fx_base.specs.Text.{text_cmp}
use Rattle.fx_value.specs.declared.scalar.Scalar.{Scalar}
use Rattle.fx_data.specs.declared.table.Table.{Table}

-- each row has the labels of the first
abbrev pub AreAlike : List (map.FinMap text_cmp Scalar) → Type 0
AreAlike [] = Unit {0}
AreAlike (row ∷ rows) = AllByRecursion (λ other. map.keys other ≡ map.keys row) rows

abbrev pub HasAlikeRows : Table → Type 0
HasAlikeRows t = AreAlike t.rows
