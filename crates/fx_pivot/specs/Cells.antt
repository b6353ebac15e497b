-- Cells of a pivot: where each stands, its name and its value.
use Rattle.std.specs.Prelude.{ℕ, Bool, true, false, ◌||◌, List, [], ◌∷◌, map, Option, None, Some, if◌then◌else◌, codes}
use Rattle.std.specs.FinMap as fin
use Rattle.std.specs.FinMap.{FinMap, get, insert}
use Rattle.std.specs.Cmp.Lexicographic.{slice_cmp}
use Rattle.std.specs.declared.cmp.Ordering.{Ordering}
use Rattle.std.specs.List.{filter, list_any, join_by}
use Rattle.std.specs.Ordering.{eq_by_cmp}
use Rattle.fx_base.specs.Text.{same_text}
use Rattle.fx_base.specs.declared.fault.FaultKind.TheVariants.{PivotName}
use Rattle.fx_base.specs.declared.place.Place.{Place}
use Rattle.fx_data.specs.declared.key.Key.{Key}
use Rattle.fx_group.specs.Answer.{Row}
use Rattle.fx_group.specs.Group.{is_listed}
use Rattle.fx_pivot.specs.declared.cell.Cell.{Cell}
use Rattle.fx_value.specs.Ends.{End, Gives, Faults, Stuck, and_then}
use Rattle.fx_value.specs.Scalar.{scalar_cmp}
use Rattle.fx_value.specs.Works.{flat_each}
use Rattle.fx_value.specs.declared.scalar.Scalar.{Scalar}
use Rattle.fx_value.specs.declared.scalar.Scalar.TheVariants.{Null, Text}

-- a missing column counts as null
abbrev pub or_null : Option Scalar → Scalar
or_null (Some value) = value
or_null None = Null

-- the values of a row under these labels
abbrev pub values_of : List (List ℕ) → Row → List Scalar
values_of labels row = map (λ label. or_null (get row label)) labels

-- value by value
abbrev pub values_cmp : List Scalar → List Scalar → Ordering
values_cmp = slice_cmp scalar_cmp

-- a text for itself, and null for the empty text; no other kind is part of a name
abbrev pub text_of : Option Scalar → End (List ℕ)
text_of (Some (Text text)) = Gives text 0
text_of (Some Null) = Gives [] 0
text_of None = Gives [] 0
text_of value = Stuck

-- the texts of a row under these labels
abbrev pub texts_of : List (List ℕ) → Row → End (List (List ℕ))
texts_of labels row = flat_each (λ label. and_then (text_of (get row label)) (λ text. Gives (text ∷ []) 0)) labels

-- the name of the column to which a row gives its value: its texts with `_` between them
abbrev pub name_of : List (List ℕ) → Row → End (List ℕ)
name_of columns row = and_then (texts_of columns row) (λ texts. Gives (join_by (λ text. text) (codes "_") texts) 0)

abbrev pub is_empty : List ℕ → Bool
is_empty [] = true
is_empty (c ∷ text) = false

-- a column can't have this name: it is empty, or stands in the row key or in the key of the table
abbrev pub is_refused : List (List ℕ) → Key → List ℕ → Bool
is_refused rows key name = is_empty name || (is_listed rows name || list_any (λ e. same_text name e.label) key.entries)

-- the row's cell under a name, null where it has no value
abbrev pub cell_under : List (List ℕ) → List ℕ → Row → List ℕ → Cell
cell_under rows value row name = record { place = values_of rows row; name = name; value = or_null (get row value) }

-- the cell of a row
abbrev pub cell_of : Place → List (List ℕ) → List (List ℕ) → List ℕ → Key → Row → End Cell
cell_of place rows columns value key row =
    and_then (name_of columns row)
    (λ name. if is_refused rows key name then Faults (record { kind = PivotName; place = place }) 0 else Gives (cell_under rows value row name) 0)

-- the cells of rows, in their order
abbrev pub cells_of : Place → List (List ℕ) → List (List ℕ) → List ℕ → Key → List Row → End (List Cell)
cells_of place rows columns value key all = flat_each (λ row. and_then (cell_of place rows columns value key row) (λ cell. Gives (cell ∷ []) 0)) all

-- the names and values of the cells that stand there, in their order
abbrev pub cells_at : List Scalar → List Cell → List (List ℕ × Scalar)
cells_at values cells = map (λ c. (c.name, c.value)) (filter (λ c. eq_by_cmp values_cmp values c.place) cells)

-- for each differing list of values of the row key the cells that stand there
unfoldable pub cells_by_place : List Cell → FinMap values_cmp (List (List ℕ × Scalar))
cells_by_place cells = fin.from_entries (map (λ c. (c.place, cells_at c.place cells)) cells)

-- a row with these values under these labels
abbrev pub with_values : List (List ℕ) → List Scalar → Row → Row
with_values [] values row = row
with_values (label ∷ labels) [] row = row
with_values (label ∷ labels) (value ∷ values) row = with_values labels values (insert row label value)

-- a row with these cells, of which the last of a name stands
abbrev pub with_cells : List (List ℕ × Scalar) → Row → Row
with_cells [] row = row
with_cells (cell ∷ cells) row = with_cells cells (insert row cell.0 cell.1)

-- the row of one list of values
abbrev pub pivot_row : List (List ℕ) → List Scalar × List (List ℕ × Scalar) → Row
pivot_row rows e = with_cells e.1 (with_values rows e.0 fin.empty)
