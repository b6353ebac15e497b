-- What the parser's code does at an expression.
use Rattle.std.specs.Prelude.{ℕ, zero, suc, true, false, cond}
use Rattle.fx_ast.specs.Tree.{Tree}
use Rattle.fx_scan.specs.declared.words.Word.TheVariants as word
use Rattle.fx_parse.specs.Items.{Items, passes, first, is_word}
use Rattle.fx_parse.specs.Readings.{Out, Bad}
use Rattle.fx_parse.specs.declared.phrase.Phrase.{Phrase}
use Rattle.fx_parse.specs.declared.phrase.Phrase.TheVariants.{Whole, Called, Line}
use Rattle.fx_parse.specs.ReadRuns.{read_postfix, read_layer, read_choice}
use Rattle.fx_parse.specs.ReadFunctions.{sees_function, read_function}

-- an expression of k + 1 levels; layer reads the line of `or`
unfoldable pub read_whole : ℕ → (Items → Out Tree) → (Items → Out Tree) → Items → Out Tree
read_whole k inner layer w = cond (passes (is_word word.If) (first w)) (read_choice k inner w)
    (cond (sees_function w) (read_function k inner w) (layer w))

-- an expression, a phrase of a line, and a postfix that ends in a call, of so many levels; they are asked for only where
-- there are levels enough
unfoldable mutual
  pub read_expr : ℕ → Items → Out Tree
  read_expr zero w = Bad false w
  read_expr (suc k) w = read_whole k (read_expr k) (read_layer k (read_expr k) (read_level k) (read_called k) 8) w

  pub read_level : ℕ → ℕ → Items → Out Tree
  read_level zero m w = Bad false w
  read_level (suc k) m w = read_layer k (read_expr k) (read_level k) (read_called k) m w

  pub read_called : ℕ → Items → Out Tree
  read_called zero w = Bad false w
  read_called (suc zero) w = Bad false w
  read_called (suc (suc l)) w = read_postfix true (suc l) l (read_expr (suc l)) (read_expr l) w

unfoldable pub read_phrase : ℕ → Phrase → Items → Out Tree
read_phrase k Whole w = read_expr k w
read_phrase k Called w = read_called k w
read_phrase k (Line m) w = read_level k m w
