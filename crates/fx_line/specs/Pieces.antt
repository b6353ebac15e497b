-- Lines that differ in nothing but integers and a time.
use Rattle.std.specs.Prelude.{◌≡◌, ℕ, ℤ, Bool, true, IsTrue, List, [], ◌∷◌, ◌++◌, flat_map, Some}
use Rattle.std.specs.List.{list_all}
use Rattle.fx_value.specs.declared.scalar.Scalar.TheVariants as scalar
use Rattle.fx_line.specs.declared.line.LineMode.{LineMode}
use Rattle.fx_line.specs.declared.point.SeriesKey.{SeriesKey}
use Rattle.fx_line.specs.declared.point.Point.{Point}
use Rattle.fx_line.specs.Line.{Pair, Written, more_text, is_time, time_of, Gives}
use Rattle.fx_line.specs.Value.{is_integer, is_bare, is_int, integer_of, is_stamp}

-- the bytes say this integer
pub record IsIntText (value : List ℕ) (n : ℤ) : Type 0 where
  pub spelled : is_integer value ≡ true
  pub bare : list_all is_bare value ≡ true
  pub exact : integer_of value ≡ n
  pub fits : is_int n ≡ true

-- the bytes begin with an integer
pub record BeginsWithInt (bytes : List ℕ) (n : ℤ) (rest : List ℕ) : Type 0 where
  pub value : List ℕ
  pub joined : bytes ≡ value ++ rest
  pub is : IsIntText value n

-- the bytes are these pieces with an integer behind each, and then the rest
abbrev pub AreFilled : List (List ℕ) → List ℕ → List ℤ → List ℕ → Type 0
AreFilled [] line [] rest = line ≡ rest
AreFilled (piece ∷ pieces) line (n ∷ ns) rest = (bytes : List ℕ) × (behind : List ℕ) × (line ≡ piece ++ bytes) × BeginsWithInt bytes n behind × AreFilled pieces behind ns rest
AreFilled pieces line ns rest = ⊥

-- the bytes are a space and a timestamp, which is this time
pub record IsStamped (mode : LineMode) (rest : List ℕ) (time : ℤ) : Type 0 where
  pub stamp : List ℕ
  pub spelled : rest ≡ 32 ∷ stamp
  pub digits : is_stamp stamp ≡ true
  pub within : is_time (time_of mode (Some stamp)) ≡ true
  pub exact : time ≡ time_of mode (Some stamp)

-- the line is these pieces with an integer behind each, and then a time
pub record IsFilled (mode : LineMode) (pieces : List (List ℕ)) (line : List ℕ) (ns : List ℤ) (time : ℤ) : Type 0 where
  pub rest : List ℕ
  pub filled : AreFilled pieces line ns rest
  pub stamped : IsStamped mode rest time

-- points of integers, one for each series
abbrev pub int_points : List SeriesKey → List ℤ → ℤ → List Point
int_points [] ns time = []
int_points (key ∷ keys) [] time = []
int_points (key ∷ keys) (n ∷ ns) time = record { series = key; time = time; value = scalar.Int n } ∷ int_points keys ns time

-- a line of these pieces gives points of these series
abbrev pub ArePieces : LineMode → List (List ℕ) → List SeriesKey → Type 0
ArePieces mode pieces keys = (line : List ℕ) (ns : List ℤ) (time : ℤ) → IsFilled mode pieces line ns time → Gives mode line (int_points keys ns time)

-- a line's bytes before its fields, where one space stands before them
abbrev pub head_text : Written → List ℕ
head_text w = w.measurement ++ (flat_map more_text w.tags ++ 32 ∷ [])

-- the bytes up to the value of each field, behind those before the first key
abbrev pub pieces_from : List ℕ → List Pair → List (List ℕ)
pieces_from front [] = []
pieces_from front (f ∷ fs) = (front ++ (f.key ++ 61 ∷ [])) ∷ pieces_from (44 ∷ []) fs

abbrev pub pieces_of : Written → List (List ℕ)
pieces_of w = pieces_from (head_text w) w.fields
