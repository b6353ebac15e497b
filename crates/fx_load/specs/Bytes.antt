-- Bytes that a byte divides.
use Rattle.std.specs.Prelude.{◌+◌, length, Option, None, Some, ◌≡◌, ℕ, Bool, true, false, ◌&&◌, ◌==◌, List, [], ◌∷◌, if◌then◌else◌}
use Rattle.std.specs.List.{list_any}

-- no byte of the text is b
abbrev pub IsFreeOf : ℕ → List ℕ → Type 0
IsFreeOf b text = list_any (λ a. a == b) text ≡ false

abbrev pub with_first : ℕ → List (List ℕ) → List (List ℕ)
with_first b [] = (b ∷ []) ∷ []
with_first b (line ∷ lines) = (b ∷ line) ∷ lines

-- a line feed comes next
abbrev pub begins_with_feed : List ℕ → Bool
begins_with_feed [] = false
begins_with_feed (b ∷ rest) = b == 10

-- the lines of a file: what stands before, between and after its line feeds, without a carriage return before one
abbrev pub lines_of : List ℕ → List (List ℕ)
lines_of [] = [] ∷ []
lines_of (b ∷ rest) = if b == 10 then [] ∷ lines_of rest else if b == 13 && begins_with_feed rest then lines_of rest else with_first b (lines_of rest)

-- a carriage return at the end taken off
abbrev pub is_empty : List ℕ → Bool
is_empty [] = true
is_empty (b ∷ rest) = false

abbrev pub without_return : List ℕ → List ℕ
without_return [] = []
without_return (b ∷ rest) = if b == 13 && is_empty rest then [] else b ∷ without_return rest

-- the lines that are left of a file whose lines are taken one by one, and how far its end is
abbrev pub lines_left : Option (List ℕ) → List (List ℕ)
lines_left None = []
lines_left (Some text) = lines_of text

abbrev pub bytes_left : Option (List ℕ) → ℕ
bytes_left None = 0
bytes_left (Some text) = length text + 1
