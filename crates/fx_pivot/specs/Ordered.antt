-- Cells in the order of their places, and the rows that they make, as the code keeps them.
use Rattle.std.specs.Prelude.{◌≡◌, ℕ, false, List, [], ◌∷◌, ◌++◌, map, Option, None, Some}
use Rattle.std.specs.FinMap.{FinMap, entries, get, insert}
use Rattle.std.specs.Option.{unwrap_or}
use Rattle.std.specs.Ordering.{is_lt}
use Rattle.std.specs.List.{AllByRecursion}
use Rattle.fx_group.specs.Answer.{Row}
use Rattle.fx_pivot.specs.Cells.{values_cmp, pivot_row}
use Rattle.fx_pivot.specs.declared.cell.Cell.{Cell}
use Rattle.fx_pivot.specs.declared.placing.Line.{Line}
use Rattle.fx_value.specs.declared.scalar.Scalar.{Scalar}

-- for each place its names and values
abbrev pub Places : Type 0
Places = FinMap values_cmp (List (List ℕ × Scalar))

-- no cell stands below this place
abbrev pub NoneBelow : List Scalar → List Cell → Type 0
NoneBelow place = AllByRecursion (λ c. is_lt (values_cmp c.place place) ≡ false)

-- no cell stands below one before it
abbrev pub Ascend : List Cell → Type 0
Ascend [] = Unit {0}
Ascend (c ∷ cells) = NoneBelow c.place cells × Ascend cells

-- the places with one more cell
abbrev pub with_cell : Places → Cell → Places
with_cell places c = insert places c.place (unwrap_or (get places c.place) [] ++ (c.name, c.value) ∷ [])

-- cell after cell
abbrev pub with_all : Places → List Cell → Places
with_all places [] = places
with_all places (c ∷ cells) = with_all (with_cell places c) cells

-- the rows of the places, each with its place
abbrev pub line_of : List (List ℕ) → List Scalar × List (List ℕ × Scalar) → Line
line_of rows e = record { place = e.0; row = pivot_row rows e }

abbrev pub lines_of : List (List ℕ) → Places → List Line
lines_of rows places = map (line_of rows) (entries places)

-- the cell's place is not below that of the last line
abbrev pub NotBelowLast : List Scalar → List Line → Type 0
NotBelowLast place lines = (front : List Line) (last : Line) → lines ≡ front ++ last ∷ [] → is_lt (values_cmp place last.place) ≡ false

-- the last line stands at this place
abbrev pub LastIs : List Scalar → List Line → Type 0
LastIs place lines = (front : List Line) (last : Line) → lines ≡ front ++ last ∷ [] → last.place ≡ place

-- a row with this value under this label, if there is one
abbrev pub with_value : Row → List ℕ → Option Scalar → Row
with_value row label (Some value) = insert row label value
with_value row label None = row
