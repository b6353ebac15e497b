-- The pattern literals of a tree and of a script, with their places, in the order of the text.
use Rattle.std.specs.Prelude.{ℕ, List, [], ◌∷◌, ◌++◌}
use Rattle.fx_base.specs.declared.place.Place.{Place}
use Rattle.fx_ast.specs.Tree.{Tree, tree, Shape, int, time, span, text, pattern, name, paren, array, rec, fun, call, pipe, member, index, chain, prefix, if_then, Trees, no_trees, more_trees, Parts, no_parts, piece, hole, Props, no_props, more_props, Params, no_params, more_params, Default, required, by_pipe, by_value, Links, no_links, more_links, StatementForm, import, assign, task, show, StatementTree, ScriptTree}

pub record PatternLiteral : Type 0 where
  pub place : Place
  pub text : List ℕ

abbrev mutual
  pub patterns : Tree → List PatternLiteral
  patterns (tree place s) = shape_patterns place s

  pub shape_patterns : Place → Shape → List PatternLiteral
  shape_patterns place (int n) = []
  shape_patterns place (time t) = []
  shape_patterns place (span s) = []
  shape_patterns place (text ps) = part_patterns ps
  shape_patterns place (pattern s) = record { place = place; text = s } ∷ []
  shape_patterns place (name x) = []
  shape_patterns place (paren e) = patterns e
  shape_patterns place (array es) = tree_patterns es
  shape_patterns place (rec base ps) = prop_patterns ps
  shape_patterns place (fun ps lets e) = param_patterns ps ++ (prop_patterns lets ++ patterns e)
  shape_patterns place (call e ps) = patterns e ++ prop_patterns ps
  shape_patterns place (pipe e es) = patterns e ++ tree_patterns es
  shape_patterns place (member e x) = patterns e
  shape_patterns place (index e at) = patterns e ++ patterns at
  shape_patterns place (chain e ls) = patterns e ++ link_patterns ls
  shape_patterns place (prefix sign e) = patterns e
  shape_patterns place (if_then a b c) = patterns a ++ (patterns b ++ patterns c)

  pub tree_patterns : Trees → List PatternLiteral
  tree_patterns no_trees = []
  tree_patterns (more_trees e es) = patterns e ++ tree_patterns es

  pub part_patterns : Parts → List PatternLiteral
  part_patterns no_parts = []
  part_patterns (piece s ps) = part_patterns ps
  part_patterns (hole e ps) = patterns e ++ part_patterns ps

  pub prop_patterns : Props → List PatternLiteral
  prop_patterns no_props = []
  prop_patterns (more_props x e ps) = patterns e ++ prop_patterns ps

  pub param_patterns : Params → List PatternLiteral
  param_patterns no_params = []
  param_patterns (more_params x d ps) = default_patterns d ++ param_patterns ps

  pub default_patterns : Default → List PatternLiteral
  default_patterns required = []
  default_patterns by_pipe = []
  default_patterns (by_value e) = patterns e

  pub link_patterns : Links → List PatternLiteral
  link_patterns no_links = []
  link_patterns (more_links place op e ls) = patterns e ++ link_patterns ls

abbrev pub form_patterns : StatementForm → List PatternLiteral
form_patterns (import alias path) = []
form_patterns (assign x e) = patterns e
form_patterns (task e) = patterns e
form_patterns (show e) = patterns e

abbrev pub statement_patterns : List StatementTree → List PatternLiteral
statement_patterns [] = []
statement_patterns (s ∷ ss) = form_patterns s.form ++ statement_patterns ss

abbrev pub script_patterns : ScriptTree → List PatternLiteral
script_patterns s = statement_patterns s.statements
