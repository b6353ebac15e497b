-- How the reader takes a line apart: what each of its steps finds at the front of some bytes.
use Rattle.std.specs.Prelude.{◌≡◌, ℕ, ℤ, pos, min, ◌+◌, ◌-◌, ◌*◌, ◌^◌, Bool, true, false, ◌&&◌, ◌||◌, ◌==◌, if◌then◌else◌, IsTrue, List, [], ◌∷◌, ◌++◌, length, take, drop, flat_map, Option, None, Some, not}
use Rattle.std.specs.List.{list_all}
use Rattle.fx_line.specs.declared.pair.Side.{Side}
use Rattle.fx_line.specs.declared.pair.Side.TheVariants as side
use Rattle.fx_line.specs.declared.word.Word.TheVariants as word
use Rattle.fx_line.specs.Word.{begins, is_word, is_escape, front, back}
use Rattle.fx_line.specs.Value.{is_bare, is_stamp, natural, without_minus}
use Rattle.fx_line.specs.Line.{without_spaces, is_empty, Pair, is_tag, is_field, are_fields, more_text, fields_text, scale_of}

-- a byte taken off at the front
abbrev pub skip : ℕ → List ℕ → Option (List ℕ)
skip b [] = None
skip b (c ∷ rest) = if c == b then Some rest else None

-- a comma or a space, which a pair ends before
abbrev pub is_divider : ℕ → Bool
is_divider b = b == 44 || b == 32

abbrev pub ends_pair : List ℕ → Bool
ends_pair rest = is_empty rest || begins is_divider rest

abbrev pub is_pair : Side → Pair → Bool
is_pair side.Tag p = is_tag p
is_pair side.Field p = is_field p

-- how far a text goes up to its closing quote, and how far a value does
abbrev pub text_len : Bool → List ℕ → ℕ
text_len behind [] = 0
text_len behind (b ∷ rest) = if not behind && b == 34 then 1 else 1 + text_len (is_escape word.Quoted behind b) rest

abbrev pub bare_len : List ℕ → ℕ
bare_len [] = 0
bare_len (b ∷ rest) = if is_bare b then 1 + bare_len rest else 0

abbrev pub field_value_len : List ℕ → ℕ
field_value_len [] = 0
field_value_len (b ∷ rest) = if b == 34 then 1 + text_len false rest else bare_len (b ∷ rest)

abbrev pub value_len : Side → List ℕ → ℕ
value_len side.Tag bytes = length (front word.Name false bytes)
value_len side.Field bytes = field_value_len bytes

-- a pair whose key is read, by what stands behind its `=`
abbrev pub with_value : Side → List ℕ → List ℕ → Option (Pair × List ℕ)
with_value s key bytes =
    if is_pair s (record { key = key; value = take (value_len s bytes) bytes }) && ends_pair (drop (value_len s bytes) bytes)
    then Some (record { key = key; value = take (value_len s bytes) bytes }, drop (value_len s bytes) bytes) else None

abbrev pub value_behind : Side → List ℕ → Option (List ℕ) → Option (Pair × List ℕ)
value_behind s key None = None
value_behind s key (Some bytes) = with_value s key bytes

-- the pair that the bytes begin with, and what stands behind it
abbrev pub pair_at : Side → List ℕ → Option (Pair × List ℕ)
pair_at s bytes = value_behind s (front word.Name false bytes) (skip 61 (back word.Name false bytes))

-- what stands behind all tags or all fields
abbrev pub ends_all : Side → List ℕ → Bool
ends_all side.Tag rest = begins (λ b. b == 32) rest
ends_all side.Field rest = is_empty rest || begins (λ b. b == 32) rest

-- the bytes are pairs, each behind a comma, and what stands behind them
pub record More (s : Side) (bytes : List ℕ) (pairs : List Pair) (rest : List ℕ) : Type 0 where
  pub spelled : bytes ≡ flat_map more_text pairs ++ rest
  pub kinds : IsTrue (list_all (is_pair s) pairs)
  pub ends : IsTrue (ends_all s rest)

-- the timestamp behind the fields, where there is one
abbrev pub stamp_of : List ℕ → Option (Option (List ℕ))
stamp_of t = if is_stamp t then Some (Some t) else None

abbrev pub time_at : List ℕ → Option (Option (List ℕ))
time_at [] = Some None
time_at (b ∷ rest) = if b == 32 then stamp_of (without_spaces rest) else None

-- the bytes are pairs, each behind a comma, and then the rest; put behind the earlier pairs they make all
pub record HasMore (s : Side) (bytes : List ℕ) (earlier all : List Pair) (rest : List ℕ) : Type 0 where
  pub pairs : List Pair
  pub joined : all ≡ earlier ++ pairs
  pub more : More s bytes pairs rest

-- the bytes are fields, and what stands behind them
pub record Fields (bytes : List ℕ) (fields : List Pair) (rest : List ℕ) : Type 0 where
  pub spelled : bytes ≡ fields_text fields ++ rest
  pub kinds : IsTrue (are_fields fields)
  pub ends : IsTrue (ends_all side.Field rest)

-- what a timestamp counts, where its digits say less than 2^64, and else a number that no time reaches
abbrev pub stamp_nanos : List ℕ → ℤ → ℤ
stamp_nanos stamp factor = pos (min (natural 0 (without_minus stamp)) (2 ^ 64 - 1) * scale_of factor)
