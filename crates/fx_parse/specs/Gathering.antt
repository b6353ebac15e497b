-- What the parser's loops over parameters and over a block's assignments do, with what was found so far. The contract of
-- parsing cites none of the readings.
use Rattle.std.specs.Prelude.{ℕ, zero, suc, Bool, false, cond, List, [], ◌∷◌, ◌++◌, map}
use Rattle.fx_ast.specs.Shape.{OfParam, OfProp, props_of, tree_of, default_of, prop}
use Rattle.fx_ast.specs.Tree.{Tree, Default, Props}
use Rattle.fx_scan.specs.declared.symbols.Symbol.TheVariants as symbol
use Rattle.fx_scan.specs.declared.words.Word.TheVariants as word
use Rattle.fx_parse.specs.declared.function.OneParam.{OneParam}
use Rattle.fx_parse.specs.declared.function.Binding.{Binding}
use Rattle.fx_parse.specs.declared.function.Contents.{Contents}
use Rattle.fx_parse.specs.Items.{Items, passes, first, label, is_name, is_symbol, is_word}
use Rattle.fx_parse.specs.Readings.{Out, Got, Bad, mapped, go_on, both, token}
use Rattle.fx_parse.specs.Closing.{closing}
use Rattle.fx_parse.specs.ReadFunctions.{read_default}

-- ---- how contracts see what was read

abbrev pub param_view : OneParam → List ℕ × Default × Bool
param_view p = (p.label, default_of p.default.how, p.last)

abbrev pub binding_view : Binding → List ℕ × Tree
binding_view b = (b.label, tree_of b.value.tree)

abbrev pub contents_view : Contents → Props × Tree
contents_view c = (props_of (map prop c.lets.items), tree_of c.result.tree)

-- ---- one at a time

-- a parameter, and whether the list ends with it
unfoldable pub read_param : (Items → Out Tree) → Items → Out (List ℕ × Default × Bool)
read_param inner w = mapped (λ p. (label p.0, p.1.0, p.1.1)) (both (token is_name) (λ x. both (read_default inner) (λ d. closing (is_symbol symbol.CloseParen))) w)

-- an assignment in a block
unfoldable pub read_binding : (Items → Out Tree) → Items → Out (List ℕ × Tree)
read_binding inner w = mapped (λ p. (label p.0, p.1.1)) (both (token is_name) (λ x. both (token (is_symbol symbol.Assign)) (λ y. inner)) w)

-- what a block returns, with the `}` after it
unfoldable pub read_return : (Items → Out Tree) → Items → Out Tree
read_return inner w = mapped (λ p. p.1.0) (both (token (is_word word.Return)) (λ x. both inner (λ e. token (is_symbol symbol.CloseBrace))) w)

-- ---- with what was found so far

abbrev pub with_param : List OfParam → List ℕ × Default × Bool → List OfParam
with_param found p = found ++ record { label = p.0; default = p.1 } ∷ []

abbrev pub with_prop : List OfProp → List ℕ × Tree → List OfProp
with_prop found p = found ++ record { label = p.0; value = p.1 } ∷ []

unfoldable pub params_from : (Items → Out Tree) → ℕ → List OfParam → Items → Out (List OfParam)
params_from inner zero found w = Bad false w
params_from inner (suc n) found w = cond (passes (is_symbol symbol.CloseParen) (first w)) (mapped (λ y. found) (token (is_symbol symbol.CloseParen) w))
    (go_on (read_param inner w) (λ p r. cond p.2 (Got (with_param found p) r) (params_from inner n (with_param found p) r)))

unfoldable pub block_from : (Items → Out Tree) → ℕ → List OfProp → Items → Out (List OfProp × Tree)
block_from inner zero found w = Bad false w
block_from inner (suc n) found w = cond (passes (is_word word.Return) (first w)) (mapped (λ e. (found, e)) (read_return inner w))
    (go_on (read_binding inner w) (λ p r. block_from inner n (with_prop found p) r))
