-- What the parser's lists are seen as.
use Rattle.std.specs.Prelude.{ℕ, Bool, List, map}
use Rattle.fx_ast.specs.Shape.{tree_of, part, prop, trees_of, parts_of, props_of}
use Rattle.fx_ast.specs.Tree.{Tree, Trees, Parts, Props}
use Rattle.fx_parse.specs.declared.group.Group.{Group as Kind}
use Rattle.fx_parse.specs.declared.group.Group.TheVariants as groups
use Rattle.fx_parse.specs.declared.lists.ExprList.{ExprList}
use Rattle.fx_parse.specs.declared.lists.PartList.{PartList}
use Rattle.fx_parse.specs.declared.lists.PropList.{PropList}
use Rattle.fx_parse.specs.declared.parts.Element.{Element}
use Rattle.fx_parse.specs.declared.parts.Hole.{Hole}
use Rattle.fx_parse.specs.declared.parts.Labelled.{Labelled}
use Rattle.fx_parse.specs.Grammar.{Group, arguments, properties}

abbrev pub trees : ExprList → Trees
trees es = trees_of (map tree_of es.items)

abbrev pub parts : PartList → Parts
parts ps = parts_of (map part ps.items)

abbrev pub props : PropList → Props
props ps = props_of (map prop ps.items)

abbrev pub an_element : Element → Tree × Bool
an_element e = (tree_of e.value.tree, e.last)

abbrev pub a_hole : Hole → Tree × List ℕ × Bool
a_hole h = (tree_of h.inner.tree, h.piece, h.last)

abbrev pub a_prop : Labelled → List ℕ × Tree × Bool
a_prop p = (p.label, tree_of p.value.tree, p.last)

-- the arguments of a call, or the properties of a record
abbrev pub group : Kind → Group
group groups.Arguments = arguments
group groups.Properties = properties
