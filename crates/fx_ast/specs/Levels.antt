-- How many levels a tree has: an expression is one level above those that it holds directly, and those in its parts,
-- properties, parameters and operators.
use Rattle.std.specs.Prelude.{ℕ, suc, max, List, [], ◌∷◌}
use Rattle.fx_ast.specs.Tree.{Tree, tree, Shape, int, time, span, text, pattern, name, paren, array, rec, fun, call, pipe, member, index, chain, prefix, if_then, Trees, no_trees, more_trees, Parts, no_parts, piece, hole, Props, no_props, more_props, Params, no_params, more_params, Default, required, by_pipe, by_value, Links, no_links, more_links, StatementForm, import, assign, task, show, StatementTree, ScriptTree}

unfoldable mutual
  pub height : Tree → ℕ
  height (tree place s) = suc (below s)

  -- the levels below the first
  pub below : Shape → ℕ
  below (int n) = 0
  below (time t) = 0
  below (span s) = 0
  below (text ps) = in_parts ps
  below (pattern s) = 0
  below (name x) = 0
  below (paren e) = height e
  below (array es) = in_trees es
  below (rec base ps) = in_props ps
  below (fun ps lets e) = max (in_params ps) (max (in_props lets) (height e))
  below (call e ps) = max (height e) (in_props ps)
  below (pipe e es) = max (height e) (in_trees es)
  below (member e x) = height e
  below (index e i) = max (height e) (height i)
  below (chain e ls) = max (height e) (in_links ls)
  below (prefix s e) = height e
  below (if_then a b c) = max (height a) (max (height b) (height c))

  pub in_trees : Trees → ℕ
  in_trees no_trees = 0
  in_trees (more_trees e es) = max (height e) (in_trees es)

  pub in_parts : Parts → ℕ
  in_parts no_parts = 0
  in_parts (piece s ps) = in_parts ps
  in_parts (hole e ps) = max (height e) (in_parts ps)

  pub in_props : Props → ℕ
  in_props no_props = 0
  in_props (more_props x e ps) = max (height e) (in_props ps)

  pub in_params : Params → ℕ
  in_params no_params = 0
  in_params (more_params x d ps) = max (in_default d) (in_params ps)

  pub in_default : Default → ℕ
  in_default required = 0
  in_default by_pipe = 0
  in_default (by_value e) = height e

  pub in_links : Links → ℕ
  in_links no_links = 0
  in_links (more_links place op e ls) = max (height e) (in_links ls)

abbrev pub in_form : StatementForm → ℕ
in_form (import alias path) = 0
in_form (assign x e) = height e
in_form (task e) = height e
in_form (show e) = height e

abbrev pub in_statements : List StatementTree → ℕ
in_statements [] = 0
in_statements (s ∷ ss) = max (in_form s.form) (in_statements ss)

abbrev pub levels : ScriptTree → ℕ
levels s = in_statements s.statements
