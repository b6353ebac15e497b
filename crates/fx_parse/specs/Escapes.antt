-- What the bytes of a text or of a pattern mean: a backslash and the byte after it stand for something else.
use Rattle.std.specs.Prelude.{◌≡◌, ℕ, ◌==◌, Bool, true, false, [], ◌∷◌, ◌++◌, if◌then◌else◌}
use Rattle.fx_scan.specs.Forms.{Bytes}
use Rattle.fx_parse.specs.declared.escapes.Quotes.{Quotes}
use Rattle.fx_parse.specs.declared.escapes.Quotes.TheVariants.{Text, Pattern}

unfoldable pub is_backslash : ℕ → Bool
is_backslash b = b == 92

-- in a text `\n` is a line feed, `\r` a carriage return and `\t` a tab; a quote, a backslash and `$` are themselves
unfoldable pub in_text : ℕ → ℕ
in_text b = if b == 110 then 10 else (if b == 114 then 13 else (if b == 116 then 9 else b))

-- in a pattern `\/` is a slash, and another backslash stays
unfoldable pub in_pattern : ℕ → Bytes
in_pattern b = if b == 47 then 47 ∷ [] else 92 ∷ (b ∷ [])

-- what a backslash and the byte stand for
abbrev pub escaped : Quotes → ℕ → Bytes
escaped Text b = in_text b ∷ []
escaped Pattern b = in_pattern b

-- the bytes u, between their ends, mean v
pub data Means (q : Quotes) : Bytes → Bytes → Type 0 where
  nothing : Means q [] []
  escape : (b : ℕ) (u v : Bytes) → Means q u v → Means q (92 ∷ (b ∷ u)) (escaped q b ++ v)
  itself : (b : ℕ) (u v : Bytes) → is_backslash b ≡ false → Means q u v → Means q (b ∷ u) (b ∷ v)

-- ---- what the code gives

-- the bytes with their escapes taken out, after a backslash or not
abbrev pub taken : Quotes → Bool → Bytes → Bytes
taken q after [] = []
taken q true (b ∷ u) = escaped q b ++ taken q false u
taken q false (b ∷ u) = if is_backslash b then taken q true u else b ∷ taken q false u
