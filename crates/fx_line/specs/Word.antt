-- Words of a line: bytes among which a backslash takes the force of the next one.
use Rattle.std.specs.Prelude.{ℕ, Bool, true, false, ◌&&◌, ◌||◌, not, ◌==◌, if◌then◌else◌, List, [], ◌∷◌}
use Rattle.fx_line.specs.declared.word.Word.{Word}
use Rattle.fx_line.specs.declared.word.Word.TheVariants as word

-- the bytes that end a word: a comma or a space, at a key or a tag's value also `=`; in a text a quote
abbrev pub ends : Word → ℕ → Bool
ends word.Measurement b = b == 44 || b == 32
ends word.Name b = b == 44 || (b == 61 || b == 32)
ends word.Quoted b = b == 34

-- the bytes whose force a backslash takes: those that end the word, in a text also the backslash
abbrev pub yields : Word → ℕ → Bool
yields word.Measurement b = b == 44 || b == 32
yields word.Name b = b == 44 || (b == 61 || b == 32)
yields word.Quoted b = b == 34 || b == 92

-- whether a byte is a backslash with force, by whether one stands before it
abbrev pub is_escape : Word → Bool → ℕ → Bool
is_escape k behind b = b == 92 && not (behind && yields k b)

-- no byte with force ends the word, and it does not end with a backslash that has force
abbrev pub is_whole : Word → Bool → List ℕ → Bool
is_whole k behind [] = not behind
is_whole k behind (b ∷ rest) = (behind || not (ends k b)) && is_whole k (is_escape k behind b) rest

abbrev pub is_word : Word → List ℕ → Bool
is_word k [] = false
is_word k (b ∷ rest) = is_whole k false (b ∷ rest)

-- the bytes begin with one that passes
abbrev pub begins : (ℕ → Bool) → List ℕ → Bool
begins test [] = false
begins test (b ∷ rest) = test b

-- what a word says: a backslash before a byte whose force it takes is left out; `plain` tells that the first byte has none
abbrev pub said : Word → Bool → List ℕ → List ℕ
said k plain [] = []
said k plain (b ∷ rest) = if not plain && (b == 92 && begins (yields k) rest) then said k true rest else b ∷ said k false rest

-- what stands before the first byte with force that ends the word, and what stands from it on
abbrev pub front : Word → Bool → List ℕ → List ℕ
front k behind [] = []
front k behind (b ∷ rest) = if not behind && ends k b then [] else b ∷ front k (is_escape k behind b) rest

abbrev pub back : Word → Bool → List ℕ → List ℕ
back k behind [] = []
back k behind (b ∷ rest) = if not behind && ends k b then b ∷ rest else back k (is_escape k behind b) rest
