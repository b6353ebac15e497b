-- The plain tree of an expression.
use Rattle.std.specs.Prelude.{ℕ, List, [], ◌∷◌, map}
use Rattle.fx_base.specs.declared.place.Place.{Place}
use Rattle.fx_ast.specs.declared.expr.Body.{Body, fold-Body}
use Rattle.fx_ast.specs.declared.expr.Expr.{Expr, fold-Expr}
use Rattle.fx_ast.specs.declared.expr.Link.{Link, fold-Link}
use Rattle.fx_ast.specs.declared.expr.Node.{Node, fold-Node}
use Rattle.fx_ast.specs.declared.expr.Param.{Param, fold-Param}
use Rattle.fx_ast.specs.declared.expr.ParamKind.{ParamKind, fold-ParamKind}
use Rattle.fx_ast.specs.declared.expr.Part.{Part, fold-Part}
use Rattle.fx_ast.specs.declared.expr.Prop.{Prop, fold-Prop}
use Rattle.fx_ast.specs.declared.expr.Infix.{Infix}
use Rattle.fx_ast.specs.declared.expr.Node.TheOpen.{Node-F, ParamKind-F, Part-F, Body-F, Expr-F, Link-F, Param-F, Prop-F}
use Rattle.fx_ast.specs.declared.script.Form.{Form}
use Rattle.fx_ast.specs.declared.script.Form.TheVariants.{Import, Assign, Task, Show}
use Rattle.fx_ast.specs.declared.script.Statement.{Statement}
use Rattle.fx_ast.specs.declared.script.Script.{Script}
use Rattle.fx_ast.specs.Tree.{Tree, tree, Shape, int, time, span, text, pattern, name, paren, array, rec, fun, call, pipe, member, index, chain, prefix, if_then, Trees, no_trees, more_trees, Parts, no_parts, piece, hole, Props, no_props, more_props, Params, no_params, more_params, Default, required, by_pipe, by_value, Links, no_links, more_links, StatementForm, import, assign, task, show, StatementTree, ScriptTree}

pub record OfProp : Type 0 where
  pub label : List ℕ
  pub value : Tree

pub record OfLink : Type 0 where
  pub place : Place
  pub op : Infix
  pub right : Tree

pub data OfPart : Type 0 where
  a_piece : (text : List ℕ) → OfPart
  a_hole : (inner : Tree) → OfPart

pub record OfParam : Type 0 where
  pub label : List ℕ
  pub default : Default

pub record OfBody : Type 0 where
  pub lets : Props
  pub result : Tree

abbrev pub trees_of : List Tree → Trees
trees_of [] = no_trees
trees_of (t ∷ ts) = more_trees t (trees_of ts)

abbrev pub parts_of : List OfPart → Parts
parts_of [] = no_parts
parts_of (a_piece t ∷ ps) = piece t (parts_of ps)
parts_of (a_hole t ∷ ps) = hole t (parts_of ps)

abbrev pub props_of : List OfProp → Props
props_of [] = no_props
props_of (p ∷ ps) = more_props p.label p.value (props_of ps)

abbrev pub links_of : List OfLink → Links
links_of [] = no_links
links_of (l ∷ ls) = more_links l.place l.op l.right (links_of ls)

abbrev pub params_of : List OfParam → Params
params_of [] = no_params
params_of (p ∷ ps) = more_params p.label p.default (params_of ps)

abbrev pub node_shape : Node-F Shape Default OfPart OfBody Tree OfLink OfParam OfProp → Shape
node_shape (Node-F.Int n) = int n
node_shape (Node-F.Time t) = time t
node_shape (Node-F.Span s) = span s
node_shape (Node-F.Text ps) = text (parts_of ps)
node_shape (Node-F.Pattern s) = pattern s
node_shape (Node-F.Name x) = name x
node_shape (Node-F.Paren e) = paren e
node_shape (Node-F.Array es) = array (trees_of es)
node_shape (Node-F.Rec base ps) = rec base (props_of ps)
node_shape (Node-F.Fun ps b) = fun (params_of ps) b.lets b.result
node_shape (Node-F.Call e ps) = call e (props_of ps)
node_shape (Node-F.«Node::Pipe» e es) = pipe e (trees_of es)
node_shape (Node-F.Member e x) = member e x
node_shape (Node-F.Index e i) = index e i
node_shape (Node-F.Chain e ls) = chain e (links_of ls)
node_shape (Node-F.Prefix s e) = prefix s e
node_shape (Node-F.If a b c) = if_then a b c

abbrev pub kind_shape : ParamKind-F Shape Default OfPart OfBody Tree OfLink OfParam OfProp → Default
kind_shape ParamKind-F.Required = required
kind_shape ParamKind-F.«ParamKind::Pipe» = by_pipe
kind_shape (ParamKind-F.Value e) = by_value e

abbrev pub part_shape : Part-F Shape Default OfPart OfBody Tree OfLink OfParam OfProp → OfPart
part_shape (Part-F.Piece s) = a_piece s
part_shape (Part-F.Hole e) = a_hole e

abbrev pub body_shape : Body-F Shape Default OfPart OfBody Tree OfLink OfParam OfProp → OfBody
body_shape b = record { lets = props_of b.lets; result = b.result }

abbrev pub expr_shape : Expr-F Shape Default OfPart OfBody Tree OfLink OfParam OfProp → Tree
expr_shape e = tree e.place e.node

abbrev pub link_shape : Link-F Shape Default OfPart OfBody Tree OfLink OfParam OfProp → OfLink
link_shape l = record { place = l.place; op = l.op; right = l.right }

abbrev pub param_shape : Param-F Shape Default OfPart OfBody Tree OfLink OfParam OfProp → OfParam
param_shape p = record { label = p.label; default = p.default }

abbrev pub prop_shape : Prop-F Shape Default OfPart OfBody Tree OfLink OfParam OfProp → OfProp
prop_shape p = record { label = p.label; value = p.value }

unfoldable pub tree_of : Expr → Tree
tree_of = fold-Expr Shape Default OfPart OfBody Tree OfLink OfParam OfProp node_shape kind_shape part_shape body_shape expr_shape link_shape param_shape prop_shape

unfoldable pub shape_of : Node → Shape
shape_of = fold-Node Shape Default OfPart OfBody Tree OfLink OfParam OfProp node_shape kind_shape part_shape body_shape expr_shape link_shape param_shape prop_shape

unfoldable pub default_of : ParamKind → Default
default_of = fold-ParamKind Shape Default OfPart OfBody Tree OfLink OfParam OfProp node_shape kind_shape part_shape body_shape expr_shape link_shape param_shape prop_shape

unfoldable pub part : Part → OfPart
part = fold-Part Shape Default OfPart OfBody Tree OfLink OfParam OfProp node_shape kind_shape part_shape body_shape expr_shape link_shape param_shape prop_shape

unfoldable pub body : Body → OfBody
body = fold-Body Shape Default OfPart OfBody Tree OfLink OfParam OfProp node_shape kind_shape part_shape body_shape expr_shape link_shape param_shape prop_shape

unfoldable pub link : Link → OfLink
link = fold-Link Shape Default OfPart OfBody Tree OfLink OfParam OfProp node_shape kind_shape part_shape body_shape expr_shape link_shape param_shape prop_shape

unfoldable pub param : Param → OfParam
param = fold-Param Shape Default OfPart OfBody Tree OfLink OfParam OfProp node_shape kind_shape part_shape body_shape expr_shape link_shape param_shape prop_shape

unfoldable pub prop : Prop → OfProp
prop = fold-Prop Shape Default OfPart OfBody Tree OfLink OfParam OfProp node_shape kind_shape part_shape body_shape expr_shape link_shape param_shape prop_shape

abbrev pub statement_form : Form → StatementForm
statement_form (Import alias path) = import alias path
statement_form (Assign x e) = assign x (tree_of e)
statement_form (Task e) = task (tree_of e)
statement_form (Show e) = show (tree_of e)

abbrev pub statement_tree : Statement → StatementTree
statement_tree s = record { place = s.place; form = statement_form s.form }

abbrev pub script_tree : Script → ScriptTree
script_tree s = record { package_name = s.package; statements = map statement_tree s.statements }
