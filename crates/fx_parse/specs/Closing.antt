-- What the parser's code does at lists, one of their parts at a time. The contract of parsing cites none of the readings.
use Rattle.std.specs.Prelude.{ℕ, Bool, true, false, cond, nat_le, List}
use Rattle.fx_ast.specs.Tree.{Tree}
use Rattle.fx_scan.specs.declared.symbols.Symbol.TheVariants as symbol
use Rattle.fx_parse.specs.declared.item.Item.{Item}
use Rattle.fx_parse.specs.Grammar.{Group, closer, labels}
use Rattle.fx_parse.specs.Items.{Items, passes, first, label, is_mid, is_tail, is_symbol}
use Rattle.fx_parse.specs.Readings.{Out, Bad, mapped, both, token}
use Rattle.fx_parse.specs.ReadProps.{read_value}
use Rattle.fx_parse.specs.ReadPrimary.{begins}

-- what closes a list, or a comma; true where it is closed
abbrev pub closing : (Item → Bool) → Items → Out Bool
closing close w = cond (passes close (first w)) (mapped (λ y. true) (token close w)) (mapped (λ y. false) (token (is_symbol symbol.Comma) w))

-- an element, and whether the array ends with it
unfoldable pub read_element : ℕ → (Items → Out Tree) → Items → Out (Tree × Bool)
read_element k inner w = cond (nat_le 1 k) (both inner (λ e. closing (is_symbol symbol.CloseBracket)) w) (Bad (passes begins (first w)) w)

-- a label and its value, and whether the list ends with them
unfoldable pub read_prop : Group → ℕ → (Items → Out Tree) → Items → Out (List ℕ × Tree × Bool)
read_prop g k inner w = cond (nat_le 1 k)
    (mapped (λ p. (label p.0, p.1.0, p.1.1)) (both (token (labels g)) (λ x. both (read_value inner x) (λ e. closing (closer g))) w))
    (Bad (passes (labels g) (first w)) w)

-- the piece after a hole, and whether the text ends with it
unfoldable pub read_piece : Items → Out (List ℕ × Bool)
read_piece w = cond (passes is_mid (first w)) (mapped (λ y. (label y, false)) (token is_mid w)) (mapped (λ y. (label y, true)) (token is_tail w))

-- a hole with the piece after it
unfoldable pub read_hole : (Items → Out Tree) → Items → Out (Tree × List ℕ × Bool)
read_hole inner w = mapped (λ p. (p.0, p.1.0, p.1.1)) (both inner (λ e. read_piece) w)
