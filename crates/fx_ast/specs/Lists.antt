-- The lists in a tree as ordinary lists, and lists put before others.
use Rattle.std.specs.Prelude.{List, [], ◌∷◌, map}
use Rattle.fx_ast.specs.declared.expr.Expr.{Expr}
use Rattle.fx_ast.specs.declared.expr.Link.{Link}
use Rattle.fx_ast.specs.declared.expr.Param.{Param}
use Rattle.fx_ast.specs.declared.expr.Part.{Part}
use Rattle.fx_ast.specs.declared.expr.Prop.{Prop}
use Rattle.fx_ast.specs.Shape.{OfPart, a_piece, a_hole, OfProp, OfParam, OfLink, tree_of, part, prop, param, link}
use Rattle.fx_ast.specs.Tree.{Tree, Trees, no_trees, more_trees, Parts, no_parts, piece, hole, Props, no_props, more_props, Params, no_params, more_params, Links, no_links, more_links}

-- ---- a list of a tree as an ordinary one: the way back from `trees_of` and its like

abbrev pub tree_list : Trees → List Tree
tree_list no_trees = []
tree_list (more_trees e es) = e ∷ tree_list es

abbrev pub part_list : Parts → List OfPart
part_list no_parts = []
part_list (piece s ps) = a_piece s ∷ part_list ps
part_list (hole e ps) = a_hole e ∷ part_list ps

abbrev pub prop_list : Props → List OfProp
prop_list no_props = []
prop_list (more_props x e ps) = record { label = x; value = e } ∷ prop_list ps

abbrev pub param_list : Params → List OfParam
param_list no_params = []
param_list (more_params x d ps) = record { label = x; default = d } ∷ param_list ps

abbrev pub link_list : Links → List OfLink
link_list no_links = []
link_list (more_links place op e ls) = record { place = place; op = op; right = e } ∷ link_list ls

-- ---- the code's items, before a list of a tree

abbrev pub ahead : {A L : Type 0} → (A → L → L) → List A → L → L
ahead cons [] rest = rest
ahead cons (x ∷ xs) rest = cons x (ahead cons xs rest)

abbrev pub part_before : OfPart → Parts → Parts
part_before (a_piece s) rest = piece s rest
part_before (a_hole e) rest = hole e rest

abbrev pub prop_before : OfProp → Props → Props
prop_before p = more_props p.label p.value

abbrev pub param_before : OfParam → Params → Params
param_before p = more_params p.label p.default

abbrev pub link_before : OfLink → Links → Links
link_before l = more_links l.place l.op l.right

abbrev pub trees_before : List Expr → Trees → Trees
trees_before es = ahead more_trees (map tree_of es)

abbrev pub parts_before : List Part → Parts → Parts
parts_before ps = ahead part_before (map part ps)

abbrev pub props_before : List Prop → Props → Props
props_before ps = ahead prop_before (map prop ps)

abbrev pub params_before : List Param → Params → Params
params_before ps = ahead param_before (map param ps)

abbrev pub links_before : List Link → Links → Links
links_before ls = ahead link_before (map link ls)
