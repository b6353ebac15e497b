-- Types without variables. A row is a function from labels to fields, so rows that give each label
-- the same field are the same row.
use Rattle.std.specs.Prelude.{◌≡◌, Bool, true, false, List, [], ◌∷◌, if◌then◌else◌, IsTrue}
use Rattle.fx_base.specs.Text.{same_text}
use Rattle.fx_types.specs.Term.{Label}

mutual
  pub data Ground : Type 0 where
    g_bool : Ground
    g_int : Ground
    g_text : Ground
    g_time : Ground
    g_span : Ground
    g_pattern : Ground
    g_done : Ground
    g_array : (element : Ground) → Ground
    -- the required labels are those that aren't Absent; the pipe is Absent or what it takes
    g_fun : (required : Label → GroundField) → (pipe : GroundField) → (result : Ground) → Ground
    g_rec : (row : Label → GroundField) → Ground
    g_stream : (row : Label → GroundField) → Ground

  pub data GroundField : Type 0 where
    g_absent : GroundField
    g_is : (type : Ground) → GroundField

abbrev pub GroundRow : Type 0
GroundRow = Label → GroundField

-- the kinds of columns: Boolean, integer, text, time
abbrev pub is_column : Ground → Bool
is_column g_bool = true
is_column g_int = true
is_column g_text = true
is_column g_time = true
is_column _ = false

-- Absent or of a column kind
abbrev pub is_plain : GroundField → Bool
is_plain g_absent = true
is_plain (g_is t) = is_column t

abbrev pub listed : Label → List Label → Bool
listed l [] = false
listed l (x ∷ xs) = if same_text l x then true else listed l xs

-- all labels but finitely many have the field d
abbrev pub HasDefault : GroundRow → GroundField → Type 0
HasDefault r d = (ls : List Label) × ((l : Label) → listed l ls ≡ false → r l ≡ d)

-- rows have a plain default, a stream's row has nothing but plain fields, and a function has
-- finitely many labels
abbrev mutual
  pub IsWellFormed : Ground → Type 0
  IsWellFormed (g_array t) = IsWellFormed t
  IsWellFormed (g_fun r p t) = HasDefault r g_absent × ((l : Label) → IsWellFormedField (r l)) × IsWellFormedField p × IsWellFormed t
  IsWellFormed (g_rec r) = ((d : GroundField) × IsTrue (is_plain d) × HasDefault r d) × ((l : Label) → IsWellFormedField (r l))
  IsWellFormed (g_stream r) = ((d : GroundField) × HasDefault r d) × ((l : Label) → IsTrue (is_plain (r l)))
  IsWellFormed _ = Unit {0}

  pub IsWellFormedField : GroundField → Type 0
  IsWellFormedField g_absent = Unit {0}
  IsWellFormedField (g_is t) = IsWellFormed t
