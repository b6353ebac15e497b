-- What the parser's code does at arguments and properties. The contract of parsing cites none of the readings.
use Rattle.std.specs.Prelude.{ℕ, zero, suc, false, cond, nat_le}
use Rattle.fx_ast.specs.Tree.{Tree, Props, no_props, more_props}
use Rattle.fx_scan.specs.declared.symbols.Symbol.TheVariants as symbol
use Rattle.fx_parse.specs.declared.item.Item.{Item}
use Rattle.fx_parse.specs.Items.{Items, passes, first, label, is_name, is_symbol}
use Rattle.fx_parse.specs.Grammar.{Group, closer, labels, named}
use Rattle.fx_parse.specs.Readings.{Out, Got, Bad, mapped, both, token}

-- what stands after a label
unfoldable pub read_value : (Items → Out Tree) → Item → Items → Out Tree
read_value inner x w = cond (passes (is_symbol symbol.Colon) (first w)) (mapped (λ p. p.1) (both (token (is_symbol symbol.Colon)) (λ y. inner) w))
    (cond (is_name x) (Got (named x) w) (Bad false w))

-- what stands after a value
unfoldable pub read_more_props : Group → (Items → Out Props) → Items → Out Props
read_more_props g again w = cond (passes (closer g) (first w)) (mapped (λ y. no_props) (token (closer g) w))
    (mapped (λ p. p.1) (both (token (is_symbol symbol.Comma)) (λ y. again) w))

-- k: the levels for values
unfoldable pub read_some_props : Group → ℕ → (Items → Out Tree) → (Items → Out Props) → Items → Out Props
read_some_props g k inner again w = cond (nat_le 1 k)
    (mapped (λ p. more_props (label p.0) p.1.0 p.1.1)
    (both (token (labels g)) (λ x. both (read_value inner x) (λ e. read_more_props g again)) w))
    (Bad (passes (labels g) (first w)) w)

-- at most so many
unfoldable pub read_props : Group → ℕ → (Items → Out Tree) → ℕ → Items → Out Props
read_props g k inner zero w = Bad false w
read_props g k inner (suc n) w = cond (passes (closer g) (first w)) (mapped (λ y. no_props) (token (closer g) w))
    (read_some_props g k inner (read_props g k inner n) w)
