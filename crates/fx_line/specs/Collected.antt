-- How the fields of a line are made points, from the last one on.
use Rattle.std.specs.Prelude.{◌≡◌, ℕ, ℤ, ◌≤◌, Bool, not, List, ◌∷◌, length, map, filter, count_by, reverse, All, None, Some}
use Rattle.std.specs.List.{list_any, IsDistinct}
use Rattle.std.specs.Str.{IsUtf8}
use Rattle.fx_base.specs.Text.{same_text}
use Rattle.fx_line.specs.declared.line.LineRead.{LineRead}
use Rattle.fx_line.specs.declared.points.Collected.{Collected}
use Rattle.fx_line.specs.declared.point.Tag.{Tag}
use Rattle.fx_line.specs.declared.point.Point.{Point}
use Rattle.fx_line.specs.Value.{is_float}
use Rattle.fx_line.specs.declared.line.LineError.{LineError}
use Rattle.fx_line.specs.declared.line.LineError.TheVariants.{Syntax}
use Rattle.fx_line.specs.declared.line.LineMode.{LineMode}
use Rattle.fx_line.specs.Line.{Pair, Written, name_said, last_ones, point_of, error_of, points_of}

-- both words are UTF-8
abbrev pub IsTextPair : Pair → Type 0
IsTextPair p = IsUtf8 p.key × IsUtf8 p.value

-- the points of those of some fields that stand and are no floats
abbrev pub points_among : List ℕ → List Tag → ℤ → List Pair → List Point
points_among measurement tags time fields = map (point_of measurement tags time) (filter (λ f. not (is_float f.value)) (last_ones fields))

abbrev pub floats_among : List Pair → ℕ
floats_among fields = count_by (λ f. is_float f.value) (last_ones fields)

-- the last fields of a line were seen, and these are their names, their points and the number of the skipped ones
pub record IsCollected (measurement : List ℕ) (tags : List Tag) (time : ℤ) (later : List Pair) (c : Collected) : Type 0 where
  pub names : (name : List ℕ) → list_any (same_text name) c.names.keys ≡ list_any (λ f. same_text name (name_said f)) later
  pub points : c.points.items ≡ reverse (points_among measurement tags time later)
  pub skipped : c.skipped ≡ floats_among later
  pub few : c.skipped ≤ length later

pub record AreCollected (measurement : List ℕ) (tags : List Tag) (time : ℤ) (fields : List Pair) (r : LineRead) : Type 0 where
  pub points : r.points ≡ points_among measurement tags time fields
  pub skipped : r.skipped ≡ floats_among fields

-- the parts of a line are texts
pub record AreTexts (w : Written) : Type 0 where
  pub measurement : IsUtf8 w.measurement
  pub tags : All IsTextPair w.tags
  pub fields : All IsTextPair w.fields

-- what a line gives, by its parts
pub record IsMade (mode : LineMode) (w : Written) (r : LineRead) : Type 0 where
  pub keys : IsDistinct same_text (map name_said w.tags)
  pub right : error_of mode w ≡ None
  pub points : r.points ≡ points_of mode w
  pub skipped : r.skipped ≡ floats_among w.fields

-- why a line is refused, by its parts
abbrev pub IsWrong : LineMode → Written → LineError → Type 0
IsWrong mode w Syntax = IsDistinct same_text (map name_said w.tags) → ⊥
IsWrong mode w e = IsDistinct same_text (map name_said w.tags) × (error_of mode w ≡ Some e)
