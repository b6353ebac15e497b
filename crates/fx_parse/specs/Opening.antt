-- What the parser's code does at one statement, and at the lists of statements with what was found before. The contract of
-- parsing cites none of the readings.
use Rattle.std.specs.Prelude.{ℕ, Bool, true, false, cond, ◌&&◌, List, [], ◌∷◌, ◌++◌, map}
use Rattle.fx_ast.specs.declared.script.Statement.{Statement}
use Rattle.fx_ast.specs.Shape.{statement_tree}
use Rattle.fx_ast.specs.Tree.{Tree, assign, task, show, StatementTree}
use Rattle.fx_scan.specs.declared.symbols.Symbol.TheVariants as symbol
use Rattle.fx_scan.specs.declared.words.Word.TheVariants as word
use Rattle.fx_parse.specs.Grammar.{joins}
use Rattle.fx_parse.specs.Items.{Items, passes, first, start, label, is_name, is_word, is_symbol, is_task}
use Rattle.fx_parse.specs.ReadScripts.{read_statement, read_statements, read_imports}
use Rattle.fx_parse.specs.Readings.{Out, Bad, mapped, both, token}

unfoldable pub read_assignment : (Items → Out Tree) → Items → Out StatementTree
read_assignment expr w = mapped (λ p. record { place = p.0.place; form = assign (label p.0) p.1.1 })
    (both (token is_name) (λ x. both (token (is_symbol symbol.Assign)) (λ y. expr)) w)

unfoldable pub read_option : (Items → Out Tree) → Items → Out StatementTree
read_option expr w = mapped (λ p. record { place = p.0.place; form = task p.1.1.1 })
    (both (token (is_word word.Option)) (λ x. both (token is_task) (λ y. both (token (is_symbol symbol.Assign)) (λ z. expr))) w)

unfoldable pub read_shown : (Items → Out Tree) → Items → Out StatementTree
read_shown expr w = mapped (λ e. record { place = start w; form = show e }) (expr w)

-- a statement; follows: another stands before
unfoldable pub read_following : (Items → Out Tree) → Bool → Items → Out StatementTree
read_following expr follows w = cond (follows && passes joins (first w)) (Bad false w) (read_statement expr w)

abbrev pub is_end : Items → Bool
is_end [] = true
is_end (x ∷ w) = false

-- ---- with what was found before

abbrev pub statement_trees : List Statement → List StatementTree
statement_trees ss = map statement_tree ss

abbrev pub after_found : List Statement → List StatementTree → List StatementTree
after_found found ss = statement_trees found ++ ss

abbrev pub statements_after : (Items → Out Tree) → ℕ → Bool → List Statement → Items → Out (List StatementTree)
statements_after expr n follows found w = mapped (after_found found) (read_statements expr n follows w)

abbrev pub imports_after : (Items → Out Tree) → ℕ → List Statement → Items → Out (List StatementTree)
imports_after expr n found w = mapped (after_found found) (read_imports expr n w)
