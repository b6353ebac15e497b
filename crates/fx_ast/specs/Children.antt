-- The trees that a tree holds directly, in the order of its text: those in its parts, properties, parameters and operators
-- too.
use Rattle.std.specs.Prelude.{List, [], ◌∷◌, ◌++◌}
use Rattle.fx_ast.specs.Tree.{Tree, tree, Shape, int, time, span, text, pattern, name, paren, array, rec, fun, call, pipe, member, index, chain, prefix, if_then, Trees, no_trees, more_trees, Parts, no_parts, piece, hole, Props, no_props, more_props, Params, no_params, more_params, Default, required, by_pipe, by_value, Links, no_links, more_links}

abbrev pub each_tree : Trees → List Tree
each_tree no_trees = []
each_tree (more_trees e es) = e ∷ each_tree es

abbrev pub each_hole : Parts → List Tree
each_hole no_parts = []
each_hole (piece s ps) = each_hole ps
each_hole (hole e ps) = e ∷ each_hole ps

abbrev pub each_value : Props → List Tree
each_value no_props = []
each_value (more_props x e ps) = e ∷ each_value ps

abbrev pub default_trees : Default → List Tree
default_trees required = []
default_trees by_pipe = []
default_trees (by_value e) = e ∷ []

abbrev pub each_default : Params → List Tree
each_default no_params = []
each_default (more_params x d ps) = default_trees d ++ each_default ps

abbrev pub each_right : Links → List Tree
each_right no_links = []
each_right (more_links place op e ls) = e ∷ each_right ls

abbrev pub inside : Shape → List Tree
inside (int n) = []
inside (time t) = []
inside (span s) = []
inside (text ps) = each_hole ps
inside (pattern s) = []
inside (name x) = []
inside (paren e) = e ∷ []
inside (array es) = each_tree es
inside (rec base ps) = each_value ps
inside (fun ps lets e) = each_default ps ++ (each_value lets ++ (e ∷ []))
inside (call e ps) = e ∷ each_value ps
inside (pipe e es) = e ∷ each_tree es
inside (member e x) = e ∷ []
inside (index e at) = e ∷ (at ∷ [])
inside (chain e ls) = e ∷ each_right ls
inside (prefix sign e) = e ∷ []
inside (if_then a b c) = a ∷ (b ∷ (c ∷ []))

abbrev pub children : Tree → List Tree
children (tree place s) = inside s
