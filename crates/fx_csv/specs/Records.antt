-- Fields and records as RFC 4180 writes them.
use Rattle.std.specs.Prelude.{ℕ, Bool, ◌==◌, ◌||◌, List, [], ◌∷◌, ◌++◌, if◌then◌else◌}
use Rattle.std.specs.List.{flat_map, list_any}

abbrev pub comma : ℕ
comma = 44

abbrev pub quote : ℕ
quote = 34

abbrev pub line_end : List ℕ
line_end = 13 ∷ 10 ∷ []

-- a field that holds one of these bytes, a comma, a quote, CR or LF, is put between quotes
abbrev pub is_special : ℕ → Bool
is_special b = (b == comma) || (b == quote) || (b == 13) || (b == 10)

-- between quotes each quote stands twice
abbrev pub doubled : ℕ → List ℕ
doubled b = if b == quote then quote ∷ quote ∷ [] else b ∷ []

abbrev pub field_bytes : List ℕ → List ℕ
field_bytes field = if list_any is_special field then quote ∷ (flat_map doubled field ++ quote ∷ []) else field

-- a record is its fields with a comma between each two of them, and CR LF
abbrev pub record_bytes : List (List ℕ) → List ℕ
record_bytes [] = line_end
record_bytes (field ∷ rest) = field_bytes field ++ (flat_map (λ f. comma ∷ field_bytes f) rest ++ line_end)
