-- What the parser's code does at statements, imports and a whole script.
use Rattle.std.specs.Prelude.{ℕ, zero, suc, Bool, true, false, cond, ◌&&◌, List, [], ◌∷◌, length, None, Some}
use Rattle.fx_ast.specs.Tree.{Tree, import, assign, task, show, StatementTree, ScriptTree}
use Rattle.fx_scan.specs.declared.symbols.Symbol.TheVariants as symbol
use Rattle.fx_scan.specs.declared.words.Word.TheVariants as word
use Rattle.fx_parse.specs.Items.{Items, passes, first, start, label, is_name, is_plain, is_word, is_symbol, is_task}
use Rattle.fx_parse.specs.Grammar.{joins}
use Rattle.fx_parse.specs.Readings.{Out, Got, Bad, mapped, both, token}

-- a name and `=`
unfoldable pub sees_assignment : Items → Bool
sees_assignment [] = false
sees_assignment (x ∷ w) = is_name x && passes (is_symbol symbol.Assign) (first w)

-- expr: reads an expression
unfoldable pub read_statement : (Items → Out Tree) → Items → Out StatementTree
read_statement expr w = cond (sees_assignment w)
    (mapped (λ p. record { place = p.0.place; form = assign (label p.0) p.1.1 })
    (both (token is_name) (λ x. both (token (is_symbol symbol.Assign)) (λ y. expr)) w))
    (cond (passes (is_word word.Option) (first w))
    (mapped (λ p. record { place = p.0.place; form = task p.1.1.1 })
    (both (token (is_word word.Option)) (λ x. both (token is_task) (λ y. both (token (is_symbol symbol.Assign)) (λ z. expr))) w))
    (mapped (λ e. record { place = start w; form = show e }) (expr w)))

-- statements up to the end; follows: another statement stands before
unfoldable pub read_statements : (Items → Out Tree) → ℕ → Bool → Items → Out (List StatementTree)
read_statements expr n follows [] = Got [] []
read_statements expr zero follows (x ∷ w) = Bad false (x ∷ w)
read_statements expr (suc n) follows (x ∷ w) = cond (follows && joins x) (Bad false (x ∷ w))
    (mapped (λ p. p.0 ∷ p.1) (both (read_statement expr) (λ s. read_statements expr n true) (x ∷ w)))

unfoldable pub read_import : Items → Out StatementTree
read_import w = mapped (λ p. record { place = p.0.place; form = import p.1.0 (label p.1.1) })
    (both (token (is_word word.Import)) (λ x. both (λ r. cond (passes is_name (first r)) (mapped (λ y. Some (label y)) (token is_name r)) (Got None r))
    (λ alias. token is_plain)) w)

unfoldable pub read_imports : (Items → Out Tree) → ℕ → Items → Out (List StatementTree)
read_imports expr zero w = read_statements expr (length w) false w
read_imports expr (suc n) w = cond (passes (is_word word.Import) (first w))
    (mapped (λ p. p.0 ∷ p.1) (both read_import (λ s. read_imports expr n) w))
    (read_statements expr (length w) false w)

unfoldable pub read_script : (Items → Out Tree) → Items → Out ScriptTree
read_script expr w = cond (passes (is_word word.Package) (first w))
    (mapped (λ p. record { package_name = Some (label p.1.0); statements = p.1.1 })
    (both (token (is_word word.Package)) (λ x. both (token is_name) (λ y r. read_imports expr (length r) r)) w))
    (mapped (λ ss. record { package_name = None; statements = ss }) (read_imports expr (length w) w))
