-- Lines: what a built-in takes and gives, in types without variables.
use Rattle.std.specs.Prelude.{◌≡◌, true, false, List, [], ◌∷◌, Option, None, Some, codes, if◌then◌else◌}
use Rattle.fx_base.specs.Text.{same_text}
use Rattle.fx_types.specs.Term.{Label}
use Rattle.fx_types.specs.Ground.{Ground, GroundField, GroundRow, g_text, g_time, g_fun, g_rec, g_stream, g_absent, g_is, listed}
use Rattle.fx_types.specs.Kinds.{IsAmong}
use Rattle.fx_value.specs.declared.scalar.Kind.TheVariants as kind

pub record Line : Type 0 where
  -- the label arguments
  pub labels : List Label
  -- the type of the built-in as a value: its required labels without the label arguments, its pipe, its result
  pub type : Ground
  -- what a call may leave out beside the label arguments
  pub optional : GroundRow
  -- the label under which what comes by the pipe may be given
  pub pipe_label : Option Label

-- rows

-- R{x: f}
abbrev pub replaced : Label → GroundField → GroundRow → GroundRow
replaced x f r l = if same_text l x then f else r l

-- R{x: T}
abbrev pub put : Label → Ground → GroundRow → GroundRow
put x t r = replaced x (g_is t) r

-- R{x: Absent}
abbrev pub take_out : Label → GroundRow → GroundRow
take_out x r = replaced x g_absent r

-- R[x: T]
abbrev pub Has : GroundRow → Label → Ground → Type 0
Has r x t = r x ≡ g_is t

-- each of the labels is present
abbrev pub HasAll : GroundRow → List Label → Type 0
HasAll r [] = Unit {0}
HasAll r (x ∷ xs) = ((t : Ground) × Has r x t) × HasAll r xs

-- each of the labels is of this type
abbrev pub EachIs : GroundRow → List Label → Ground → Type 0
EachIs r [] t = Unit {0}
EachIs r (x ∷ xs) t = Has r x t × EachIs r xs t

-- the listed labels of R, and the field f elsewhere
abbrev pub kept : List Label → GroundRow → GroundField → GroundRow
kept xs r f l = if listed l xs then r l else f

-- R without the listed labels
abbrev pub without : List Label → GroundRow → GroundRow
without xs r l = if listed l xs then g_absent else r l

-- Q with each new label in place of what R has at the old one
abbrev pub named : List Label → List Label → GroundRow → GroundRow → GroundRow
named (old ∷ olds) (new ∷ news) r q = replaced new (r old) (named olds news r q)
named _ _ r q = q

-- times with the bounds of the window that they lie in
abbrev pub HasBounds : GroundRow → Type 0
HasBounds r = Has r (codes "_time") g_time × Has r (codes "_start") g_time × Has r (codes "_stop") g_time

-- what is stored under a kind: measurement, field, time, value, and tags, which are texts
abbrev pub stored : Ground → GroundRow
stored k = put (codes "_measurement") g_text (put (codes "_field") g_text (put (codes "_time") g_time (put (codes "_value") k (λ l. g_is g_text))))

-- kinds

-- a column kind
abbrev pub IsKind : Ground → Type 0
IsKind = IsAmong (kind.Bool ∷ kind.Int ∷ kind.Text ∷ kind.Time ∷ []) false

-- a time, or a duration that is added to the present
abbrev pub IsMoment : Ground → Type 0
IsMoment = IsAmong (kind.Time ∷ []) true

-- calls

abbrev pub Parameters : Type 0
Parameters = List (Label × Ground)

abbrev pub parameters : Parameters → GroundRow
parameters [] l = g_absent
parameters (p ∷ ps) l = if same_text l p.0 then g_is p.1 else parameters ps l

abbrev pub value : Ground → Line
value t = record { labels = []; type = t; optional = parameters []; pipe_label = None }

-- a function of required and optional parameters
abbrev pub call : Parameters → Parameters → Ground → Line
call ps os t = record { labels = []; type = g_fun (parameters ps) g_absent t; optional = parameters os; pipe_label = None }

-- a function that takes a stream of R by the pipe or the label x
abbrev pub piped : Label → GroundRow → List Label → Parameters → Parameters → Ground → Line
piped x r ls ps os t = record { labels = ls; type = g_fun (parameters ps) (g_is (g_stream r)) t; optional = parameters os; pipe_label = Some x }

abbrev pub from_tables : GroundRow → List Label → Parameters → Parameters → Ground → Line
from_tables = piped (codes "tables")

-- functions of one row and of two
abbrev pub of_row : GroundRow → Ground → Ground
of_row r t = g_fun (parameters ((codes "r", g_rec r) ∷ [])) g_absent t

abbrev pub of_rows : GroundRow → GroundRow → Ground → Ground
of_rows r q t = g_fun (parameters ((codes "l", g_rec r) ∷ (codes "r", g_rec q) ∷ [])) g_absent t
