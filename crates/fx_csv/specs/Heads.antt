-- The records before the rows of a block, by what is kept of its columns.
use Rattle.std.specs.Prelude.{ℕ, List, [], ◌∷◌, ◌++◌, map, codes}
use Rattle.fx_csv.specs.declared.column.Column.{Column}
use Rattle.fx_csv.specs.declared.head.Head.{Head}
use Rattle.fx_csv.specs.declared.head.Head.TheVariants.{Datatype, Group, Default, Label}
use Rattle.fx_csv.specs.Cells.{bool_text, datatype}

-- the three fields before those of the columns
abbrev pub head_lead : Head → List ℕ → List (List ℕ)
head_lead Datatype name = codes "#datatype" ∷ codes "string" ∷ codes "long" ∷ []
head_lead Group name = codes "#group" ∷ codes "false" ∷ codes "false" ∷ []
head_lead Default name = codes "#default" ∷ name ∷ [] ∷ []
head_lead Label name = [] ∷ codes "result" ∷ codes "table" ∷ []

abbrev pub head_field : Head → Column → List ℕ
head_field Datatype c = datatype c.kind
head_field Group c = bool_text c.grouped
head_field Default c = []
head_field Label c = c.label

abbrev pub head_record : List ℕ → List Column → Head → List (List ℕ)
head_record name columns head = head_lead head name ++ map (head_field head) columns

-- all four
abbrev pub heads : List ℕ → List Column → List (List (List ℕ))
heads name columns = map (head_record name columns) (Datatype ∷ Group ∷ Default ∷ Label ∷ [])
