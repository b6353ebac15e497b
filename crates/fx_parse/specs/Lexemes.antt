-- What the tokens of a script say, by the slices that they are.
use Rattle.std.specs.Prelude.{◌≡◌, ℕ, ℤ, pos, List, [], ◌∷◌, ◌++◌, Some}
use Rattle.std.specs.List.{AllZip}
use Rattle.fx_time.specs.Time.{IsTime}
use Rattle.fx_scan.specs.declared.symbols.Symbol.{Symbol}
use Rattle.fx_scan.specs.declared.token.Token.{Token}
use Rattle.fx_scan.specs.declared.token.TokenKind.{TokenKind}
use Rattle.fx_scan.specs.declared.token.TokenKind.TheVariants.{Name, Word as WordKind, Int, Span, Time, Plain, Head, Mid, Tail, Pattern, Symbol as SymbolKind}
use Rattle.fx_scan.specs.declared.words.Word.{Word}
use Rattle.fx_scan.specs.Forms.{Bytes, IsSpan, number_of, slice_of}
use Rattle.fx_scan.specs.Tables.{symbol_of, word_of}
use Rattle.fx_parse.specs.declared.escapes.Quotes.{Quotes}
use Rattle.fx_parse.specs.declared.escapes.Quotes.TheVariants as quotes
use Rattle.fx_parse.specs.declared.item.Item.{Item}
use Rattle.fx_parse.specs.declared.item.Lexeme.{Lexeme}
use Rattle.fx_parse.specs.declared.item.Lexeme.TheVariants as lexeme
use Rattle.fx_parse.specs.Escapes.{Means}

-- u is one byte, then bytes that mean v, and then the end
pub record IsQuoted (q : Quotes) (first : ℕ) (end u v : Bytes) : Type 0 where
  pub inner : Bytes
  pub text : u ≡ first ∷ (inner ++ end)
  pub means : Means q inner v

-- a quote
abbrev pub closing : Bytes
closing = 34 ∷ []

-- `${`
abbrev pub opening : Bytes
opening = 36 ∷ (123 ∷ [])

-- a slash
abbrev pub slash : Bytes
slash = 47 ∷ []

-- the slice u of a token of the kind says l
abbrev pub Tells : TokenKind → Bytes → Lexeme → Type 0
Tells Name u l = l ≡ lexeme.Name u
Tells WordKind u l = (word : Word) × (word_of u ≡ Some word) × (l ≡ lexeme.Word word)
Tells Int u l = l ≡ lexeme.Int (pos (number_of u))
Tells Span u l = (months nanos : ℕ) × IsSpan u months nanos × (l ≡ lexeme.Span (record { months = pos months; nanos = pos nanos }))
Tells Time u l = (t : ℤ) × IsTime u t × (l ≡ lexeme.Time t)
Tells Plain u l = (v : Bytes) × IsQuoted quotes.Text 34 closing u v × (l ≡ lexeme.Plain v)
Tells Head u l = (v : Bytes) × IsQuoted quotes.Text 34 opening u v × (l ≡ lexeme.Head v)
Tells Mid u l = (v : Bytes) × IsQuoted quotes.Text 125 opening u v × (l ≡ lexeme.Mid v)
Tells Tail u l = (v : Bytes) × IsQuoted quotes.Text 125 closing u v × (l ≡ lexeme.Tail v)
Tells Pattern u l = (v : Bytes) × IsQuoted quotes.Pattern 47 slash u v × (l ≡ lexeme.Pattern v)
Tells SymbolKind u l = (symbol : Symbol) × (symbol_of u ≡ Some symbol) × (l ≡ lexeme.Symbol symbol)

-- the item is the text's token, with what its slice says
pub record ReadsAs (text : Bytes) (t : Token) (item : Item) : Type 0 where
  pub place : item.place ≡ t.place
  pub tells : Tells t.kind (slice_of text t) item.lexeme

-- the items are the text's tokens, with what they say
abbrev pub AllRead : Bytes → List Token → List Item → Type 0
AllRead text tokens items = AllZip (ReadsAs text) tokens items
