-- Items: tokens with what they say, and what the grammar asks of them.
use Rattle.std.specs.Prelude.{ℕ, ◌==◌, ◌&&◌, ◌||◌, ◌+◌, Bool, false, List, [], ◌∷◌, Option, None, Some, codes, get_or}
use Rattle.std.specs.Str.{bytes_eq}
use Rattle.fx_base.specs.declared.place.Place.{Place}
use Rattle.fx_ast.specs.declared.expr.Infix.{Infix}
use Rattle.fx_ast.specs.declared.expr.Infix.TheVariants as between
use Rattle.fx_ast.specs.declared.expr.Prefix.{Prefix}
use Rattle.fx_ast.specs.declared.expr.Prefix.TheVariants as before
use Rattle.fx_ast.specs.Tree.{Tree, tree, Shape, int, time, span, text, pattern, name, no_parts, piece}
use Rattle.fx_scan.specs.declared.symbols.Symbol.{Symbol}
use Rattle.fx_scan.specs.declared.symbols.Symbol.TheVariants as symbol
use Rattle.fx_scan.specs.declared.words.Word.{Word}
use Rattle.fx_scan.specs.declared.words.Word.TheVariants as word
use Rattle.fx_parse.specs.declared.item.Item.{Item}
use Rattle.fx_parse.specs.declared.item.Lexeme.{Lexeme}
use Rattle.fx_parse.specs.declared.item.Lexeme.TheVariants.{Name, Word as WordOf, Int, Span, Time, Plain, Head, Mid, Tail, Pattern, Symbol as SymbolOf}

abbrev pub Items : Type 0
Items = List Item

-- ---- which token an item is, without what it says

pub data Sort : Type 0 where
  a_name an_int a_span a_time a_plain a_head a_mid a_tail a_pattern : Sort
  a_word : Word → Sort
  a_symbol : Symbol → Sort

abbrev pub sort : Lexeme → Sort
sort (Name x) = a_name
sort (WordOf x) = a_word x
sort (Int n) = an_int
sort (Span s) = a_span
sort (Time t) = a_time
sort (Plain s) = a_plain
sort (Head s) = a_head
sort (Mid s) = a_mid
sort (Tail s) = a_tail
sort (Pattern s) = a_pattern
sort (SymbolOf x) = a_symbol x

-- words, symbols and sorts by numbers of their own, to tell them apart
abbrev pub word_number : Word → ℕ
word_number word.And = 0
word_number word.Builtin = 1
word_number word.Else = 2
word_number word.Empty = 3
word_number word.Exists = 4
word_number word.If = 5
word_number word.Import = 6
word_number word.In = 7
word_number word.Not = 8
word_number word.Option = 9
word_number word.Or = 10
word_number word.Package = 11
word_number word.Return = 12
word_number word.Test = 13
word_number word.Testcase = 14
word_number word.Then = 15

abbrev pub symbol_number : Symbol → ℕ
symbol_number symbol.Plus = 0
symbol_number symbol.Minus = 1
symbol_number symbol.Star = 2
symbol_number symbol.Slash = 3
symbol_number symbol.Percent = 4
symbol_number symbol.Equal = 5
symbol_number symbol.NotEqual = 6
symbol_number symbol.Less = 7
symbol_number symbol.Greater = 8
symbol_number symbol.AtMost = 9
symbol_number symbol.AtLeast = 10
symbol_number symbol.Matches = 11
symbol_number symbol.MatchesNot = 12
symbol_number symbol.Assign = 13
symbol_number symbol.Arrow = 14
symbol_number symbol.PipeParameter = 15
symbol_number symbol.OpenParen = 16
symbol_number symbol.CloseParen = 17
symbol_number symbol.OpenBracket = 18
symbol_number symbol.CloseBracket = 19
symbol_number symbol.OpenBrace = 20
symbol_number symbol.CloseBrace = 21
symbol_number symbol.Comma = 22
symbol_number symbol.Colon = 23
symbol_number symbol.Dot = 24
symbol_number symbol.Pipe = 25

abbrev pub sort_number : Sort → ℕ
sort_number a_name = 0
sort_number an_int = 1
sort_number a_span = 2
sort_number a_time = 3
sort_number a_plain = 4
sort_number a_head = 5
sort_number a_mid = 6
sort_number a_tail = 7
sort_number a_pattern = 8
sort_number (a_word x) = 10 + word_number x
sort_number (a_symbol x) = 30 + symbol_number x

abbrev pub same_sort : Sort → Sort → Bool
same_sort a b = sort_number a == sort_number b

abbrev pub among : List Sort → Sort → Bool
among [] b = false
among (a ∷ sorts) b = same_sort a b || among sorts b

-- the item is of one of these sorts
unfoldable pub one_of : List Sort → Item → Bool
one_of sorts x = among sorts (sort x.lexeme)

-- there is a next item, and it passes
abbrev pub passes : (Item → Bool) → Option Item → Bool
passes test None = false
passes test (Some x) = test x

abbrev pub first : Items → Option Item
first [] = None
first (x ∷ w) = Some x

-- the place of the first item
abbrev pub start : Items → Place
start [] = record { at = 0 }
start (x ∷ w) = x.place

-- ---- what an item says

-- the bytes of a name, of a text or of a text's piece
unfoldable pub bytes_of : Lexeme → List ℕ
bytes_of (Name x) = x
bytes_of (Plain s) = s
bytes_of (Head s) = s
bytes_of (Mid s) = s
bytes_of (Tail s) = s
bytes_of l = []

abbrev pub label : Item → List ℕ
label x = bytes_of x.lexeme

-- a literal or a name, as an expression
unfoldable pub literal_shape : Lexeme → Shape
literal_shape (Int n) = int n
literal_shape (Span s) = span s
literal_shape (Time t) = time t
literal_shape (Plain s) = text (piece s no_parts)
literal_shape (Pattern s) = pattern s
literal_shape (Name x) = name x
literal_shape l = name []

abbrev pub literal : Item → Tree
literal x = tree x.place (literal_shape x.lexeme)

-- a name with these bytes
unfoldable pub is_called : List ℕ → Item → Bool
is_called bytes x = one_of (a_name ∷ []) x && bytes_eq (label x) bytes

-- ---- sorts that the grammar asks for

abbrev pub literals : List Sort
literals = an_int ∷ a_span ∷ a_time ∷ a_plain ∷ a_pattern ∷ a_name ∷ []

abbrev pub is_literal : Item → Bool
is_literal = one_of literals

abbrev pub is_name : Item → Bool
is_name = one_of (a_name ∷ [])

abbrev pub is_plain : Item → Bool
is_plain = one_of (a_plain ∷ [])

-- the label of a property of a record
abbrev pub is_label : Item → Bool
is_label = one_of (a_name ∷ a_plain ∷ [])

abbrev pub is_head : Item → Bool
is_head = one_of (a_head ∷ [])

abbrev pub is_mid : Item → Bool
is_mid = one_of (a_mid ∷ [])

abbrev pub is_tail : Item → Bool
is_tail = one_of (a_tail ∷ [])

abbrev pub is_word : Word → Item → Bool
is_word x = one_of (a_word x ∷ [])

abbrev pub is_symbol : Symbol → Item → Bool
is_symbol x = one_of (a_symbol x ∷ [])

abbrev pub is_task : Item → Bool
is_task = is_called (codes "task")

abbrev pub is_with : Item → Bool
is_with = is_called (codes "with")

-- ---- operators, by the line of the grammar, from the tightest: 0 is a postfix, 1 a sign, 2 a pipe, 3 a product,
-- 4 a sum, 5 a comparison, 6 a `not`, 7 an `and`, 8 an `or`

-- before an operand of the line
abbrev pub prefixes : ℕ → List Sort
prefixes m = get_or ([] ∷ (a_symbol symbol.Plus ∷ a_symbol symbol.Minus ∷ []) ∷ [] ∷ [] ∷ [] ∷ []
    ∷ (a_word word.Not ∷ a_word word.Exists ∷ []) ∷ []) m []

-- between operands of the line below
abbrev pub operators : ℕ → List Sort
operators m = get_or ([] ∷ [] ∷ (a_symbol symbol.Pipe ∷ [])
    ∷ (a_symbol symbol.Star ∷ a_symbol symbol.Slash ∷ a_symbol symbol.Percent ∷ [])
    ∷ (a_symbol symbol.Plus ∷ a_symbol symbol.Minus ∷ [])
    ∷ (a_symbol symbol.Equal ∷ a_symbol symbol.NotEqual ∷ a_symbol symbol.Less ∷ a_symbol symbol.AtMost ∷ a_symbol symbol.Greater
    ∷ a_symbol symbol.AtLeast ∷ a_symbol symbol.Matches ∷ a_symbol symbol.MatchesNot ∷ [])
    ∷ [] ∷ (a_word word.And ∷ []) ∷ (a_word word.Or ∷ []) ∷ []) m []

-- what an operator between operands is
unfoldable pub infix_of : Lexeme → Infix
infix_of (WordOf word.Or) = between.Or
infix_of (WordOf word.And) = between.And
infix_of (SymbolOf symbol.Equal) = between.Eq
infix_of (SymbolOf symbol.NotEqual) = between.Ne
infix_of (SymbolOf symbol.Less) = between.Lt
infix_of (SymbolOf symbol.AtMost) = between.Le
infix_of (SymbolOf symbol.Greater) = between.Gt
infix_of (SymbolOf symbol.AtLeast) = between.Ge
infix_of (SymbolOf symbol.Matches) = between.Like
infix_of (SymbolOf symbol.MatchesNot) = between.NotLike
infix_of (SymbolOf symbol.Plus) = between.Add
infix_of (SymbolOf symbol.Minus) = between.Sub
infix_of (SymbolOf symbol.Star) = between.Mul
infix_of (SymbolOf symbol.Slash) = between.Div
infix_of (SymbolOf symbol.Percent) = between.Rem
infix_of l = between.Or

-- what an operator before an operand is
unfoldable pub prefix_of : Lexeme → Prefix
prefix_of (SymbolOf symbol.Plus) = before.Plus
prefix_of (SymbolOf symbol.Minus) = before.Minus
prefix_of (WordOf word.Not) = before.Not
prefix_of (WordOf word.Exists) = before.Exists
prefix_of l = before.Plus
