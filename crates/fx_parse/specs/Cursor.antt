-- What the parser's functions say of their results, and how they look at the next item.
use Rattle.std.specs.Prelude.{◌≡◌, ℕ, Bool, false, cond, [], ◌∷◌, Result, Ok, Err}
use Rattle.fx_scan.specs.declared.symbols.Symbol.TheVariants as symbol
use Rattle.fx_scan.specs.declared.words.Word.TheVariants as word
use Rattle.fx_parse.specs.declared.item.Item.{Item}
use Rattle.fx_parse.specs.declared.stop.Stop.{Stop}
use Rattle.fx_parse.specs.declared.stop.Stop.TheVariants as stop
use Rattle.fx_parse.specs.Items.{Items, Sort, a_word, a_symbol}
use Rattle.fx_parse.specs.Readings.{Out, Got, Bad}

-- the function answers what the reading gives, and leaves what that leaves; want of memory is free
abbrev pub Gives : {A B : Type 0} → (A → B) → Out B → Result A Stop → Items → Type 0
Gives f o (Ok a) new = o ≡ Got (f a) new
Gives f o (Err stop.Memory) new = Unit {0}
Gives f o (Err (stop.Refused deep)) new = o ≡ Bad deep new

-- the next item, where it was seen to pass
abbrev pub taken : Bool → Items → Out Item
taken seen [] = Bad false []
taken seen (x ∷ w) = cond seen (Got x w) (Bad false (x ∷ w))

-- the line of the grammar between whose operands it stands, or 0
abbrev pub operator_line : Sort → ℕ
operator_line (a_word word.Or) = 8
operator_line (a_word word.And) = 7
operator_line (a_symbol symbol.Equal) = 5
operator_line (a_symbol symbol.NotEqual) = 5
operator_line (a_symbol symbol.Less) = 5
operator_line (a_symbol symbol.AtMost) = 5
operator_line (a_symbol symbol.Greater) = 5
operator_line (a_symbol symbol.AtLeast) = 5
operator_line (a_symbol symbol.Matches) = 5
operator_line (a_symbol symbol.MatchesNot) = 5
operator_line (a_symbol symbol.Plus) = 4
operator_line (a_symbol symbol.Minus) = 4
operator_line (a_symbol symbol.Star) = 3
operator_line (a_symbol symbol.Slash) = 3
operator_line (a_symbol symbol.Percent) = 3
operator_line (a_symbol symbol.Pipe) = 2
operator_line s = 0

-- the line of the grammar before whose operands it stands, or 0
abbrev pub prefix_line : Sort → ℕ
prefix_line (a_word word.Not) = 6
prefix_line (a_word word.Exists) = 6
prefix_line (a_symbol symbol.Plus) = 1
prefix_line (a_symbol symbol.Minus) = 1
prefix_line s = 0
