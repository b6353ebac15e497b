-- Lists of tokens: how they lie in a text, one after another, with blanks and comments before, between and after them.
--
-- Each token is the longest slice at its place that has the form of any token there. Whether `/` divides or begins a
-- pattern, and whether `}` goes on with a text, hangs on the tokens before. Between tokens `//` begins a comment.
use Rattle.std.specs.Prelude.{◌≡◌, ◌<◌, ◌≤◌, ◌==◌, ◌+◌, ◌&&◌, ◌||◌, ℕ, Bool, true, false, not, List, [], ◌∷◌, ◌++◌, length}
use Rattle.std.specs.List.{list_all}
use Rattle.fx_scan.specs.declared.mode.Mode.{Mode}
use Rattle.fx_scan.specs.declared.token.Token.{Token}
use Rattle.fx_scan.specs.declared.token.TokenKind.{TokenKind}
use Rattle.fx_scan.specs.declared.token.TokenKind.TheVariants.{Name, Word, Int, Span, Time, Plain, Head, Mid, Tail, Pattern, Symbol}
use Rattle.fx_scan.specs.Forms.{Bytes, begins, is_letter, is_digit, is_name_byte, is_slash, is_line_feed, Form}

-- ---- blanks and comments

-- space, tab, CR or LF
unfoldable pub is_blank : ℕ → Bool
is_blank b = b == 32 || (b == 9 || (b == 13 || b == 10))

-- `//`
abbrev pub begins_comment : Bytes → Bool
begins_comment [] = false
begins_comment (b ∷ rest) = is_slash b && begins is_slash rest

-- c, before z, runs from `//` to the end of its line
pub record IsComment (c z : Bytes) : Type 0 where
  pub slashes : begins_comment c ≡ true
  pub one_line : list_all (λ b. not (is_line_feed b)) c ≡ true
  pub to_the_end : begins (λ b. not (is_line_feed b)) z ≡ false

-- ---- what stands around a token

-- `µ`, in UTF-8
abbrev pub begins_micro : Bytes → Bool
begins_micro [] = false
begins_micro (b ∷ rest) = (b == 194) && begins (λ c. c == 181) rest

-- an ASCII letter or `µ`: the unit of a span is the whole run of these
abbrev pub begins_letter : Bytes → Bool
begins_letter z = begins is_letter z || begins_micro z

-- a point and a digit
abbrev pub begins_fraction : Bytes → Bool
begins_fraction [] = false
begins_fraction (b ∷ rest) = (b == 46) && begins is_digit rest

-- what can't stand directly after an integer
abbrev pub spoils_int : Bytes → Bool
spoils_int z = begins is_name_byte z || (begins_micro z || begins_fraction z)

-- `{` or `}`
unfoldable pub is_brace : ℕ → Bool
is_brace b = b == 123 || b == 125

-- `)`, `]` or `}`
unfoldable pub is_closing : ℕ → Bool
is_closing b = b == 41 || (b == 93 || b == 125)

-- ---- the mode: what the tokens before a place settle

-- before the first token
abbrev pub start : Mode
start = record { divides = false; in_hole = false }

-- a `/` divides directly after what ends an operand
abbrev pub ends_operand : TokenKind → Bytes → Bool
ends_operand Name u = true
ends_operand Word u = false
ends_operand Int u = true
ends_operand Span u = true
ends_operand Time u = true
ends_operand Plain u = true
ends_operand Head u = false
ends_operand Mid u = false
ends_operand Tail u = true
ends_operand Pattern u = true
ends_operand Symbol u = begins is_closing u

-- an interpolation is open from a head to its tail
abbrev pub stays_open : Bool → TokenKind → Bool
stays_open held Head = true
stays_open held Tail = false
stays_open held k = held

-- after a token of the kind with the slice u
abbrev pub after : Mode → TokenKind → Bytes → Mode
after m k u = record { divides = ends_operand k u; in_hole = stays_open m.in_hole k }

-- ---- tokens at a place

-- what a kind asks of the mode, of its slice's first byte, and of what follows the slice
abbrev pub Suits : Mode → TokenKind → Bytes → Bytes → Type 0
Suits m Name u z = Unit {0}
Suits m Word u z = Unit {0}
Suits m Int u z = spoils_int z ≡ false
Suits m Span u z = begins_letter z ≡ false
Suits m Time u z = begins is_name_byte z ≡ false
Suits m Plain u z = Unit {0}
Suits m Head u z = m.in_hole ≡ false
Suits m Mid u z = m.in_hole ≡ true
Suits m Tail u z = m.in_hole ≡ true
Suits m Pattern u z = m.divides ≡ false
Suits m Symbol u z = (begins is_slash u ≡ true → m.divides ≡ true) × (begins is_brace u ≡ true → m.in_hole ≡ false)

-- the slice u, before z, has the form of a token of the kind
pub record FormAt (m : Mode) (k : TokenKind) (u z : Bytes) : Type 0 where
  pub form : Form k u
  pub suits : Suits m k u z

-- no slice that begins where u does and has the form of a token is longer
abbrev pub IsLongest : Mode → Bytes → Bytes → Type 0
IsLongest m u z = (k : TokenKind) (v y : Bytes) → u ++ z ≡ v ++ y → FormAt m k v y → length v ≤ length u

-- the slice u, before z, is the token there
pub record IsToken (m : Mode) (k : TokenKind) (u z : Bytes) : Type 0 where
  pub form : FormAt m k u z
  pub longest : IsLongest m u z
  pub no_comment : begins_comment (u ++ z) ≡ false

abbrev pub token_at : ℕ → TokenKind → Bytes → Token
token_at p k u = record { kind = k; place = record { at = p }; len = length u }

-- From place p and mode m, with w left, the tokens and what is blank between them lead to place q and mode n, with y
-- left.
pub data Reads : ℕ → Mode → Bytes → List Token → ℕ → Mode → Bytes → Type 0 where
  nothing : {p : ℕ} {m : Mode} {w : Bytes} → Reads p m w [] p m w
  blank : {p q : ℕ} {m n : Mode} {w y : Bytes} {ts : List Token} (b : ℕ) (z : Bytes) → w ≡ b ∷ z → is_blank b ≡ true
      → Reads (p + 1) m z ts q n y → Reads p m w ts q n y
  comment : {p q : ℕ} {m n : Mode} {w y : Bytes} {ts : List Token} (c z : Bytes) → w ≡ c ++ z → IsComment c z
      → Reads (p + length c) m z ts q n y → Reads p m w ts q n y
  token : {p q : ℕ} {m n : Mode} {w y : Bytes} {ts : List Token} (k : TokenKind) (u z : Bytes) → w ≡ u ++ z → IsToken m k u z
      → Reads (p + length u) (after m k u) z ts q n y → Reads p m w (token_at p k u ∷ ts) q n y

-- these are the tokens of the text, from its first byte to its last
pub record IsTokenList (text : Bytes) (ts : List Token) : Type 0 where
  pub end : ℕ
  pub mode : Mode
  pub reads : Reads 0 start text ts end mode []

-- each token has some bytes, and begins at place p or later, and where the one before ended or later
abbrev pub IsInOrder : ℕ → List Token → Type 0
IsInOrder p [] = Unit {0}
IsInOrder p (t ∷ ts) = (p ≤ t.place.at) × (0 < t.len) × IsInOrder (t.place.at + t.len) ts

-- no blank, no comment and no token begins
pub record IsStill (m : Mode) (left : Bytes) : Type 0 where
  pub no_blank : begins is_blank left ≡ false
  pub no_comment : begins_comment left ≡ false
  pub no_token : (k : TokenKind) (u z : Bytes) → left ≡ u ++ z → FormAt m k u z → ⊥

-- tokens and blanks lead to the place, and there something is left and nothing begins
pub record IsStuck (text : Bytes) (place : ℕ) : Type 0 where
  pub tokens : List Token
  pub mode : Mode
  pub left : Bytes
  pub reads : Reads 0 start text tokens place mode left
  pub some : 0 < length left
  pub still : IsStill mode left
