-- What the parser's code does at a function.
use Rattle.std.specs.Prelude.{ℕ, zero, suc, Bool, true, false, cond, ◌&&◌, ◌||◌, nat_le, length, drop}
use Rattle.fx_ast.specs.Tree.{Tree, tree, fun, Props, no_props, more_props, Params, no_params, more_params, Default, required, by_pipe, by_value}
use Rattle.fx_scan.specs.declared.symbols.Symbol.TheVariants as symbol
use Rattle.fx_scan.specs.declared.words.Word.TheVariants as word
use Rattle.fx_parse.specs.declared.item.Item.{Item}
use Rattle.fx_parse.specs.Items.{Items, passes, first, label, is_name, is_word, is_symbol}
use Rattle.fx_parse.specs.Readings.{Out, Got, Bad, mapped, both, token}

-- the item so many places ahead passes
unfoldable pub sees : (Item → Bool) → ℕ → Items → Bool
sees test i w = passes test (first (drop i w))

-- `( )`, `( name ,`, `( name =`, or `( name )` and `=>`
unfoldable pub sees_function : Items → Bool
sees_function w = sees (is_symbol symbol.OpenParen) 0 w && (sees (is_symbol symbol.CloseParen) 1 w || (sees is_name 1 w
    && (sees (is_symbol symbol.Comma) 2 w || (sees (is_symbol symbol.Assign) 2 w
    || (sees (is_symbol symbol.CloseParen) 2 w && sees (is_symbol symbol.Arrow) 3 w)))))

-- after a parameter's name
unfoldable pub read_default : (Items → Out Tree) → Items → Out Default
read_default inner w = cond (passes (is_symbol symbol.Assign) (first w))
    (mapped (λ p. p.1) (both (token (is_symbol symbol.Assign)) (λ x r. cond (passes (is_symbol symbol.PipeParameter) (first r))
    (mapped (λ y. by_pipe) (token (is_symbol symbol.PipeParameter) r)) (mapped by_value (inner r))) w))
    (Got required w)

unfoldable pub read_more_params : (Items → Out Params) → Items → Out Params
read_more_params again w = cond (passes (is_symbol symbol.CloseParen) (first w)) (mapped (λ y. no_params) (token (is_symbol symbol.CloseParen) w))
    (mapped (λ p. p.1) (both (token (is_symbol symbol.Comma)) (λ y. again) w))

unfoldable pub read_params : (Items → Out Tree) → ℕ → Items → Out Params
read_params inner zero w = Bad false w
read_params inner (suc n) w = cond (passes (is_symbol symbol.CloseParen) (first w)) (mapped (λ y. no_params) (token (is_symbol symbol.CloseParen) w))
    (mapped (λ p. more_params (label p.0) p.1.0 p.1.1)
    (both (token is_name) (λ x. both (read_default inner) (λ d. read_more_params (read_params inner n))) w))

-- after the `{` of a block
unfoldable pub read_block : (Items → Out Tree) → ℕ → Items → Out (Props × Tree)
read_block inner zero w = Bad false w
read_block inner (suc n) w = cond (passes (is_word word.Return) (first w))
    (mapped (λ p. (no_props, p.1.0)) (both (token (is_word word.Return)) (λ x. both inner (λ e. token (is_symbol symbol.CloseBrace))) w))
    (mapped (λ p. (more_props (label p.0) p.1.1.0 p.1.1.1.0, p.1.1.1.1))
    (both (token is_name) (λ x. both (token (is_symbol symbol.Assign)) (λ y. both inner (λ a. read_block inner n))) w))

unfoldable pub read_body : (Items → Out Tree) → Items → Out (Props × Tree)
read_body inner w = cond (passes (is_symbol symbol.OpenBrace) (first w))
    (mapped (λ p. p.1) (both (token (is_symbol symbol.OpenBrace)) (λ x r. read_block inner (length r) r) w))
    (mapped (λ e. (no_props, e)) (inner w))

unfoldable pub read_function : ℕ → (Items → Out Tree) → Items → Out Tree
read_function k inner w = cond (nat_le 1 k)
    (mapped (λ p. tree p.0.place (fun p.1.0 p.1.1.1.0 p.1.1.1.1))
    (both (token (is_symbol symbol.OpenParen)) (λ x. both (λ r. read_params inner (length r) r)
    (λ ps. both (token (is_symbol symbol.Arrow)) (λ y. read_body inner))) w))
    (Bad true w)
