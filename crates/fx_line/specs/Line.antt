-- One line of line protocol and its points, by how the line is spelled.
--
-- Spaces around a line mean nothing. A line that is then empty or begins with `#` gives no point. Any other is
--
--     measurement{,key=value} key=value{,key=value} [TIMESTAMP]
--
-- with one or more spaces before the fields and before the timestamp. These parts are words: in a measurement a backslash
-- takes the force of a comma or a space, in a key or a tag's value also that of `=`. A field's value is a text between
-- quotes, an integer, an unsigned integer, a float or a Boolean. All bytes are UTF-8, and no two tags have the same key.
--
-- Each field is a point, but for one whose key a later field of the line has, and for a float that is skipped. Its series is
-- the measurement, the tags by rising key, and the field's key; its time is the timestamp in nanoseconds, or the moment that
-- is handed in.
--
-- A line that is of no such form is refused, and so is one with an error; of more errors the first of the list is the
-- reason. They are looked for in all fields as they are written, also in those that give no point.
use Rattle.std.specs.Prelude.{◌≡◌, ◌≢◌, ℕ, ◌-◌, ◌*◌, ◌^◌, ℤ, pos, neg_ℤ, Bool, true, false, ◌&&◌, ◌||◌, not, ◌==◌, nat_lt, IsTrue, if◌then◌else◌, List, [], ◌∷◌, ◌++◌, length, map, filter, flat_map, count_by, Option, None, Some, ◌⊎◌}
use Rattle.std.specs.List.{list_all, list_any, IsDistinct}
use Rattle.std.specs.Ordering.{is_lt}
use Rattle.std.specs.Str.{IsUtf8}
use Rattle.fx_base.specs.Text.{text_cmp, same_text}
use Rattle.fx_line.specs.declared.line.LineError.{LineError}
use Rattle.fx_line.specs.declared.line.LineError.TheVariants.{Syntax, TooManyTags, NameReserved, FloatField, UintField, IntRange, TimeRange}
use Rattle.fx_line.specs.declared.line.LineMode.{LineMode}
use Rattle.fx_line.specs.declared.point.Tag.{Tag}
use Rattle.fx_line.specs.declared.point.Point.{Point}
use Rattle.fx_line.specs.declared.word.Word.TheVariants as word
use Rattle.fx_line.specs.Word.{begins, is_word, said}
use Rattle.fx_line.specs.Value.{is_value, is_stamp, is_float, is_unsigned, is_integer, natural, without_minus, signed, integer_of, is_between, is_int, scalar_of}

-- spaces taken off at the front, and at the end
abbrev pub without_spaces : List ℕ → List ℕ
without_spaces [] = []
without_spaces (b ∷ rest) = if b == 32 then without_spaces rest else b ∷ rest

abbrev pub is_empty : List ℕ → Bool
is_empty [] = true
is_empty (b ∷ rest) = false

abbrev pub without_last_spaces : List ℕ → List ℕ
without_last_spaces [] = []
without_last_spaces (b ∷ rest) = if b == 32 && is_empty (without_last_spaces rest) then [] else b ∷ without_last_spaces rest

abbrev pub trimmed : List ℕ → List ℕ
trimmed line = without_last_spaces (without_spaces line)

-- a line without points: nothing, or a comment
abbrev pub is_blank : List ℕ → Bool
is_blank body = is_empty body || begins (λ b. b == 35) body

-- a tag or a field as it is written
pub record Pair : Type 0 where
  pub key : List ℕ
  pub value : List ℕ

-- a line as it is written, part by part
pub record Written : Type 0 where
  pub measurement : List ℕ
  pub tags : List Pair
  pub fields : List Pair
  pub time : Option (List ℕ)

abbrev pub is_tag : Pair → Bool
is_tag p = is_word word.Name p.key && is_word word.Name p.value

abbrev pub is_field : Pair → Bool
is_field p = is_word word.Name p.key && is_value p.value

-- one space or more
abbrev pub is_gap : List ℕ → Bool
is_gap [] = false
is_gap (b ∷ rest) = b == 32 && list_all (λ c. c == 32) rest

abbrev pub pair_text : Pair → List ℕ
pair_text p = p.key ++ 61 ∷ p.value

-- a tag, or a field behind another one: `,key=value`
abbrev pub more_text : Pair → List ℕ
more_text p = 44 ∷ pair_text p

abbrev pub fields_text : List Pair → List ℕ
fields_text [] = []
fields_text (f ∷ fs) = pair_text f ++ flat_map more_text fs

abbrev pub time_text : List ℕ → Option (List ℕ) → List ℕ
time_text gap None = []
time_text gap (Some t) = gap ++ t

abbrev pub are_fields : List Pair → Bool
are_fields [] = false
are_fields (f ∷ fs) = is_field f && list_all is_field fs

abbrev pub is_time_or_none : Option (List ℕ) → Bool
is_time_or_none None = true
is_time_or_none (Some t) = is_stamp t

-- these are the parts of a line whose spaces are taken off, joined by gaps
pub record IsSpelled (body : List ℕ) (w : Written) : Type 0 where
  pub gap : List ℕ
  pub later_gap : List ℕ
  pub spelled : body ≡ w.measurement ++ (flat_map more_text w.tags ++ (gap ++ (fields_text w.fields ++ time_text later_gap w.time)))
  pub gap_is : IsTrue (is_gap gap)
  pub later_gap_is : IsTrue (is_gap later_gap)
  pub measurement : IsTrue (is_word word.Measurement w.measurement)
  pub tags : IsTrue (list_all is_tag w.tags)
  pub fields : IsTrue (are_fields w.fields)
  pub time : IsTrue (is_time_or_none w.time)

-- a tag as it is said
abbrev pub tag_said : Pair → Tag
tag_said p = record { key = said word.Name false p.key; value = said word.Name false p.value }

abbrev pub name_said : Pair → List ℕ
name_said p = said word.Name false p.key

-- the line is of the form, and these are its parts
pub record IsLine (line : List ℕ) (w : Written) : Type 0 where
  pub text : IsUtf8 line
  pub shown : is_blank (trimmed line) ≡ false
  pub parts : IsSpelled (trimmed line) w
  pub keys : IsDistinct same_text (map name_said w.tags)

-- a time that a point may have
abbrev pub is_time : ℤ → Bool
is_time = is_between (neg_ℤ (pos (2 ^ 63 - 2))) (pos (2 ^ 63 - 2))

-- how many nanoseconds one count of a timestamp may stand for
abbrev pub is_factor : ℤ → Bool
is_factor (pos n) = n == 1 || (n == 1000 || (n == 1000000 || n == 1000000000))
is_factor n = false

abbrev pub scale_of : ℤ → ℕ
scale_of (pos n) = n
scale_of n = 0

-- the line's time in nanoseconds
abbrev pub time_of : LineMode → Option (List ℕ) → ℤ
time_of mode None = mode.moment
time_of mode (Some t) = signed t (natural 0 (without_minus t) * scale_of mode.factor)

-- a name of the engine's own
abbrev pub is_reserved : List ℕ → Bool
is_reserved name = begins (λ b. b == 95) name

abbrev pub has_reserved : Written → Bool
has_reserved w = is_reserved w.measurement || (list_any (λ t. is_reserved t.key) w.tags || list_any (λ f. is_reserved f.key) w.fields)

abbrev pub is_wide : Pair → Bool
is_wide f = is_integer f.value && not (is_int (integer_of f.value))

-- why a line of the form is refused: the first that applies
abbrev pub error_of : LineMode → Written → Option LineError
error_of mode w =
    if nat_lt 64 (length w.tags) then Some TooManyTags else
    if has_reserved w then Some NameReserved else
    if not mode.skip_floats && list_any (λ f. is_float f.value) w.fields then Some FloatField else
    if list_any (λ f. is_unsigned f.value) w.fields then Some UintField else
    if list_any is_wide w.fields then Some IntRange else
    if not (is_time (time_of mode w.time)) then Some TimeRange else None

-- of fields with one key the last stands
abbrev pub last_ones : List Pair → List Pair
last_ones [] = []
last_ones (f ∷ fs) = if list_any (λ g. same_text (name_said f) (name_said g)) fs then last_ones fs else f ∷ last_ones fs

-- a tag put among tags that rise by key
abbrev pub place_tag : Tag → List Tag → List Tag
place_tag t [] = t ∷ []
place_tag t (u ∷ rest) = if is_lt (text_cmp t.key u.key) then t ∷ u ∷ rest else u ∷ place_tag t rest

-- the tags by rising key
abbrev pub sort_tags : List Tag → List Tag
sort_tags [] = []
sort_tags (t ∷ rest) = place_tag t (sort_tags rest)

abbrev pub point_of : List ℕ → List Tag → ℤ → Pair → Point
point_of measurement tags time f = record {
  series = record { measurement = measurement; tags = tags; field = name_said f };
  time = time;
  value = scalar_of f.value;
}

abbrev pub points_of : LineMode → Written → List Point
points_of mode w =
    map (point_of (said word.Measurement false w.measurement) (sort_tags (map tag_said w.tags)) (time_of mode w.time))
    (filter (λ f. not (is_float f.value)) (last_ones w.fields))

-- these are the points of a line that is not refused
abbrev pub Gives : LineMode → List ℕ → List Point → Type 0
Gives mode line points =
    ((is_blank (trimmed line) ≡ true) × (points ≡ [])) ⊎ ((w : Written) × IsLine line w × (error_of mode w ≡ None) × (points ≡ points_of mode w))

-- so many fields of a line that is not refused are floats that are skipped
abbrev pub Skips : List ℕ → ℕ → Type 0
Skips line n =
    ((is_blank (trimmed line) ≡ true) × (n ≡ 0)) ⊎ ((w : Written) × IsLine line w × (n ≡ count_by (λ f. is_float f.value) (last_ones w.fields)))

-- the line is refused, and this is the reason
abbrev pub IsRefused : LineMode → List ℕ → LineError → Type 0
IsRefused mode line Syntax = (is_blank (trimmed line) ≡ false) × ((w : Written) → IsLine line w → ⊥)
IsRefused mode line e = (w : Written) × IsLine line w × (error_of mode w ≡ Some e)
