-- The tables of the reserved words, the symbols and the units of spans: rows of a text and what it stands for.
use Rattle.std.specs.Prelude.{ℕ, List, [], ◌∷◌, Option, codes, map}
use Rattle.std.specs.Borrow.{Bor}
use Rattle.std.specs.Ordering.{nat_cmp}
use Rattle.std.specs.Cmp.Lexicographic.{slice_cmp}
use Rattle.fx_table.specs.CaseTable.{value_at}
use Rattle.fx_scan.specs.declared.words.Word.{Word}
use Rattle.fx_scan.specs.declared.words.Word.TheVariants as word
use Rattle.fx_scan.specs.declared.symbols.Symbol.{Symbol}
use Rattle.fx_scan.specs.declared.symbols.Symbol.TheVariants as symbol
use Rattle.fx_scan.specs.declared.units.Unit.{Unit}
use Rattle.fx_scan.specs.declared.units.Unit.TheVariants as unit

-- the reserved words; `task` and `with` are names
unfoldable pub words : List (List ℕ × Word)
words =
    (codes "and", word.And)
    ∷ (codes "builtin", word.Builtin)
    ∷ (codes "else", word.Else)
    ∷ (codes "empty", word.Empty)
    ∷ (codes "exists", word.Exists)
    ∷ (codes "if", word.If)
    ∷ (codes "import", word.Import)
    ∷ (codes "in", word.In)
    ∷ (codes "not", word.Not)
    ∷ (codes "option", word.Option)
    ∷ (codes "or", word.Or)
    ∷ (codes "package", word.Package)
    ∷ (codes "return", word.Return)
    ∷ (codes "test", word.Test)
    ∷ (codes "testcase", word.Testcase)
    ∷ (codes "then", word.Then)
    ∷ []

unfoldable pub symbols : List (List ℕ × Symbol)
symbols =
    (codes "!=", symbol.NotEqual)
    ∷ (codes "!~", symbol.MatchesNot)
    ∷ (codes "%", symbol.Percent)
    ∷ (codes "(", symbol.OpenParen)
    ∷ (codes ")", symbol.CloseParen)
    ∷ (codes "*", symbol.Star)
    ∷ (codes "+", symbol.Plus)
    ∷ (codes ",", symbol.Comma)
    ∷ (codes "-", symbol.Minus)
    ∷ (codes ".", symbol.Dot)
    ∷ (codes "/", symbol.Slash)
    ∷ (codes ":", symbol.Colon)
    ∷ (codes "<", symbol.Less)
    ∷ (codes "<-", symbol.PipeParameter)
    ∷ (codes "<=", symbol.AtMost)
    ∷ (codes "=", symbol.Assign)
    ∷ (codes "==", symbol.Equal)
    ∷ (codes "=>", symbol.Arrow)
    ∷ (codes "=~", symbol.Matches)
    ∷ (codes ">", symbol.Greater)
    ∷ (codes ">=", symbol.AtLeast)
    ∷ (codes "[", symbol.OpenBracket)
    ∷ (codes "]", symbol.CloseBracket)
    ∷ (codes "{", symbol.OpenBrace)
    ∷ (codes "|>", symbol.Pipe)
    ∷ (codes "}", symbol.CloseBrace)
    ∷ []

-- the rows, with the texts that code lends
abbrev pub texts : {V : Type 0} → List (Bor (List ℕ) × V) → List (List ℕ × V)
texts rows = map (λ row. (row.0.now, row.1)) rows

-- the units of spans: a year is 12 months, a week 7 days, a day 24 hours. The last row is `µs`, in UTF-8
unfoldable pub units : List (List ℕ × Unit)
units =
    (codes "d", unit.Nanos 86_400_000_000_000)
    ∷ (codes "h", unit.Nanos 3_600_000_000_000)
    ∷ (codes "m", unit.Nanos 60_000_000_000)
    ∷ (codes "mo", unit.Months 1)
    ∷ (codes "ms", unit.Nanos 1_000_000)
    ∷ (codes "ns", unit.Nanos 1)
    ∷ (codes "s", unit.Nanos 1_000_000_000)
    ∷ (codes "us", unit.Nanos 1_000)
    ∷ (codes "w", unit.Nanos 604_800_000_000_000)
    ∷ (codes "y", unit.Months 12)
    ∷ (194 ∷ 181 ∷ 115 ∷ [], unit.Nanos 1_000)
    ∷ []

-- what stands in the row whose text is this one
unfoldable pub word_of : List ℕ → Option Word
word_of text = value_at (slice_cmp nat_cmp) text words

unfoldable pub symbol_of : List ℕ → Option Symbol
symbol_of text = value_at (slice_cmp nat_cmp) text symbols

unfoldable pub unit_of : List ℕ → Option Unit
unit_of text = value_at (slice_cmp nat_cmp) text units
