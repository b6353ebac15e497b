-- What operators take of the answers of row functions.
use Rattle.std.specs.Prelude.{ℕ, Bool, false, List, [], ◌∷◌}
use Rattle.std.specs.FinMap.{FinMap}
use Rattle.fx_base.specs.Text.{text_cmp}
use Rattle.fx_value.specs.declared.answer.Answer.{Answer}
use Rattle.fx_value.specs.declared.answer.Answer.TheVariants.{Cell, Line}
use Rattle.fx_value.specs.declared.scalar.Scalar.{Scalar}
use Rattle.fx_value.specs.declared.scalar.Scalar.TheVariants.{Null, Bool as Truth}
use Rattle.fx_value.specs.Ends.{End, Gives, Stuck, and_then}

abbrev pub Row : Type 0
Row = FinMap text_cmp Scalar

-- how a row function ends on rows, under a limit on ticks
abbrev pub Meaning : Type 0
Meaning = List Row → ℕ → End Answer

-- a Boolean for itself, and null for no; nothing else says whether a row is wanted
abbrev pub truth_of : Answer → End Bool
truth_of (Cell (Truth b)) = Gives b 0
truth_of (Cell Null) = Gives false 0
truth_of answer = Stuck

-- the row that was made; a scalar is none
abbrev pub line_of : Answer → End Row
line_of (Line row) = Gives row 0
line_of (Cell value) = Stuck

-- whether the function says of the row that it is wanted
abbrev pub tested : Meaning → ℕ → Row → End Bool
tested means limit row = and_then (means (row ∷ []) limit) truth_of

-- the row that the function makes of the row
abbrev pub turned : Meaning → ℕ → Row → End Row
turned means limit row = and_then (means (row ∷ []) limit) line_of
