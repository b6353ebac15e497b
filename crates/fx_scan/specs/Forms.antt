-- The forms of tokens: what a slice of a script's bytes looks like, whatever stands around it.
--
-- A name is an ASCII letter or `_` and then ASCII letters, digits and `_`; a reserved word is none. An integer has no
-- leading 0 but in `0`, and is at most 9223372036854775807. A span is one or more pairs of digits and a unit, whose
-- months and nanoseconds are each at most 9223372036854775807. A time is one of the calendar, in RFC 3339's spelling.
-- Texts stand between quotes, and `${` and `}` cut them into pieces. A pattern stands between slashes on one line.
use Rattle.std.specs.Prelude.{◌≡◌, ◌<◌, ◌≤◌, ◌==◌, ◌+◌, ◌-◌, ◌*◌, ◌&&◌, ◌||◌, ℕ, ℤ, nat_le, Bool, true, false, not, List, [], ◌∷◌, ◌++◌, length, take, drop, fold, Option, None, Some, is_some}
use Rattle.std.specs.List.{list_all}
use Rattle.fx_time.specs.Time.{IsTime}
use Rattle.fx_scan.specs.declared.words.Word.{Word}
use Rattle.fx_scan.specs.declared.symbols.Symbol.{Symbol}
use Rattle.fx_scan.specs.declared.units.Unit.{Unit}
use Rattle.fx_scan.specs.declared.units.Unit.TheVariants.{Months, Nanos}
use Rattle.fx_scan.specs.declared.token.Token.{Token}
use Rattle.fx_scan.specs.declared.token.TokenKind.{TokenKind}
use Rattle.fx_scan.specs.declared.token.TokenKind.TheVariants.{Name, Word as WordKind, Int, Span, Time, Plain, Head, Mid, Tail, Pattern, Symbol as SymbolKind}
use Rattle.fx_scan.specs.Tables.{word_of, symbol_of, unit_of}

abbrev pub Bytes : Type 0
Bytes = List ℕ

-- there is a first byte, and it passes
abbrev pub begins : (ℕ → Bool) → Bytes → Bool
begins test [] = false
begins test (b ∷ rest) = test b

-- an ASCII letter
unfoldable pub is_letter : ℕ → Bool
is_letter b = (nat_le 65 b && nat_le b 90) || (nat_le 97 b && nat_le b 122)

unfoldable pub is_digit : ℕ → Bool
is_digit b = nat_le 48 b && nat_le b 57

-- an ASCII letter or `_`
unfoldable pub is_name_start : ℕ → Bool
is_name_start b = is_letter b || b == 95

-- an ASCII letter, a digit or `_`
unfoldable pub is_name_byte : ℕ → Bool
is_name_byte b = is_letter b || (is_digit b || b == 95)

abbrev pub is_name : Bytes → Bool
is_name [] = false
is_name (b ∷ rest) = is_name_start b && list_all is_name_byte rest

-- ---- numbers

abbrev pub is_digits : Bytes → Bool
is_digits [] = false
is_digits (b ∷ rest) = is_digit b && list_all is_digit rest

-- the number that digits say
abbrev pub number_of : Bytes → ℕ
number_of digits = fold (λ n digit. 10 * n + (digit - 48)) 0 digits

-- the greatest integer of 64 bits with a sign
abbrev pub greatest : ℕ
greatest = 9_223_372_036_854_775_807

unfoldable pub is_zero : ℕ → Bool
is_zero b = b == 48

pub record IsInt (u : Bytes) : Type 0 where
  pub digits : is_digits u ≡ true
  pub no_leading_zero : begins is_zero u ≡ true → length u ≡ 1
  pub bound : number_of u ≤ greatest

-- ---- spans: pairs of digits and a unit

-- the texts of the digits and of the unit
abbrev pub Pair : Type 0
Pair = Bytes × Bytes

abbrev pub is_pair : Pair → Bool
is_pair p = is_digits p.0 && is_some (unit_of p.1)

-- what a unit is worth in months
abbrev pub unit_months : Option Unit → ℕ
unit_months None = 0
unit_months (Some (Months n)) = n
unit_months (Some (Nanos n)) = 0

-- and in nanoseconds
abbrev pub unit_nanos : Option Unit → ℕ
unit_nanos None = 0
unit_nanos (Some (Months n)) = 0
unit_nanos (Some (Nanos n)) = n

-- the pairs' texts, one after another
abbrev pub spelled : List Pair → Bytes
spelled [] = []
spelled (p ∷ ps) = p.0 ++ (p.1 ++ spelled ps)

abbrev pub all_months : List Pair → ℕ
all_months [] = 0
all_months (p ∷ ps) = number_of p.0 * unit_months (unit_of p.1) + all_months ps

abbrev pub all_nanos : List Pair → ℕ
all_nanos [] = 0
all_nanos (p ∷ ps) = number_of p.0 * unit_nanos (unit_of p.1) + all_nanos ps

-- u is a span of so many months and so many nanoseconds
pub record IsSpan (u : Bytes) (months nanos : ℕ) : Type 0 where
  pub pairs : List Pair
  pub some : 0 < length pairs
  pub formed : list_all is_pair pairs ≡ true
  pub text : u ≡ spelled pairs
  pub months_are : months ≡ all_months pairs
  pub nanos_are : nanos ≡ all_nanos pairs
  pub months_bound : months ≤ greatest
  pub nanos_bound : nanos ≤ greatest

-- ---- texts

-- what may stand after a backslash in a text: `n`, `r`, `t`, a quote, a backslash or `$`
unfoldable pub is_escape : ℕ → Bool
is_escape b = b == 110 || (b == 114 || (b == 116 || (b == 34 || (b == 92 || b == 36))))

-- a byte of a text that is itself: no quote, no backslash and no `$`
unfoldable pub is_inside : ℕ → Bool
is_inside b = not (b == 34 || (b == 92 || b == 36))

unfoldable pub is_open_brace : ℕ → Bool
is_open_brace b = b == 123

-- what stands in a text after a quote or a `}`; true where it ends with `${`, false where it ends with a quote
pub data Piece : Bool → Bytes → Type 0 where
  closed : Piece false (34 ∷ [])
  opened : Piece true (36 ∷ (123 ∷ []))
  escape : {opens : Bool} (b : ℕ) (u : Bytes) → is_escape b ≡ true → Piece opens u → Piece opens (92 ∷ (b ∷ u))
  dollar : {opens : Bool} (u : Bytes) → begins is_open_brace u ≡ false → Piece opens u → Piece opens (36 ∷ u)
  inside : {opens : Bool} (b : ℕ) (u : Bytes) → is_inside b ≡ true → Piece opens u → Piece opens (b ∷ u)

-- the byte, and then a piece
pub record IsText (first : ℕ) (opens : Bool) (u : Bytes) : Type 0 where
  pub rest : Bytes
  pub text : u ≡ first ∷ rest
  pub piece : Piece opens rest

-- ---- patterns

unfoldable pub is_slash : ℕ → Bool
is_slash b = b == 47

unfoldable pub is_line_feed : ℕ → Bool
is_line_feed b = b == 10

-- a byte of a pattern that is itself: no slash, no backslash and no line feed
unfoldable pub is_plain : ℕ → Bool
is_plain b = not (b == 47 || (b == 92 || b == 10))

-- what stands in a pattern after its first slash: a backslash stays with what follows it on the line
pub data Closed : Bytes → Type 0 where
  slash : Closed (47 ∷ [])
  pair : (b : ℕ) (u : Bytes) → is_line_feed b ≡ false → Closed u → Closed (92 ∷ (b ∷ u))
  plain : (b : ℕ) (u : Bytes) → is_plain b ≡ true → Closed u → Closed (b ∷ u)

-- slashes around something
pub record IsPattern (u : Bytes) : Type 0 where
  pub rest : Bytes
  pub text : u ≡ 47 ∷ rest
  pub some : begins is_slash rest ≡ false
  pub closed : Closed rest

-- ---- kinds

-- the slice has the form of the kind. A `}` before a piece ends an interpolation, and a quote begins a text
abbrev pub Form : TokenKind → Bytes → Type 0
Form Name u = (is_name u ≡ true) × (word_of u ≡ None)
Form WordKind u = (word : Word) × (word_of u ≡ Some word)
Form Int u = IsInt u
Form Span u = (months nanos : ℕ) × IsSpan u months nanos
Form Time u = (t : ℤ) × IsTime u t
Form Plain u = IsText 34 false u
Form Head u = IsText 34 true u
Form Mid u = IsText 125 true u
Form Tail u = IsText 125 false u
Form Pattern u = IsPattern u
Form SymbolKind u = (symbol : Symbol) × (symbol_of u ≡ Some symbol)

-- the token's slice of the text
abbrev pub slice_of : Bytes → Token → Bytes
slice_of text t = take t.len (drop t.place.at text)

-- the token lies within the text, and its slice has the form of its kind
pub record IsFormed (text : Bytes) (t : Token) : Type 0 where
  pub within : t.place.at + t.len ≤ length text
  pub form : Form t.kind (slice_of text t)
