-- The equations of plain trees: of what an expression, a node and each of their parts is seen as.
use Rattle.std.proofs.Common.{◌≡◌, sym, ap, ◌∙◌, map, ℕ, List}
use Rattle.std.specs.Prelude.{ℤ, Option}
use Rattle.fx_time.specs.declared.span.Span as spans
use Rattle.fx_base.specs.declared.place.Place.{Place}
use Rattle.fx_ast.specs.declared.expr.Body.{Body, roll-Body}
use Rattle.fx_ast.specs.declared.expr.Expr.{Expr, roll-Expr}
use Rattle.fx_ast.specs.declared.expr.Infix.{Infix}
use Rattle.fx_ast.specs.declared.expr.Link.{Link, roll-Link}
use Rattle.fx_ast.specs.declared.expr.Node.{Node}
use Rattle.fx_ast.specs.declared.expr.Param.{Param, roll-Param}
use Rattle.fx_ast.specs.declared.expr.ParamKind.{ParamKind}
use Rattle.fx_ast.specs.declared.expr.Part.{Part}
use Rattle.fx_ast.specs.declared.expr.Prop.{Prop, roll-Prop}
use Rattle.fx_ast.specs.declared.expr.Prefix as signs
use Rattle.fx_ast.specs.declared.expr.Node.TheFolds.{fold_out-Body, fold_out-Expr, fold_out-Link, fold_out-Param, fold_out-Prop, fold-roll-Body, fold-roll-Node, fold-roll-Part, fold-roll-ParamKind}
use Rattle.fx_ast.specs.declared.expr.Node.TheViews.{out-Body}
use Rattle.fx_ast.specs.declared.expr.Node.TheOpen.{Node-F, Part-F, ParamKind-F}
use Rattle.fx_ast.specs.declared.expr.Node.TheVariants as node
use Rattle.fx_ast.specs.declared.expr.Part.TheVariants as part_variants
use Rattle.fx_ast.specs.declared.expr.ParamKind.TheVariants as kind_variants
use Rattle.fx_ast.specs.Tree.{Tree, tree, Shape, int, time, span, text, pattern, name, paren, array, rec, fun, call, pipe, member, index, chain, prefix, if_then, Default, required, by_pipe, by_value}
use Rattle.fx_ast.specs.Shape.{OfPart, a_piece, a_hole, OfBody, OfLink, OfParam, OfProp, node_shape, kind_shape, part_shape, body_shape, expr_shape, link_shape, param_shape, prop_shape, tree_of, shape_of, default_of, part, body, link, param, prop, trees_of, parts_of, props_of, links_of, params_of}

pub tree_is : (e : Expr) → tree_of e ≡ tree e.place (shape_of e.node)
unfolding tree_of shape_of
tree_is e = fold_out-Expr Shape Default OfPart OfBody Tree OfLink OfParam OfProp node_shape kind_shape part_shape body_shape expr_shape link_shape param_shape prop_shape e

pub link_is : (l : Link) → link l ≡ record { place = l.place; op = l.op; right = tree_of l.right }
unfolding tree_of link
link_is l = fold_out-Link Shape Default OfPart OfBody Tree OfLink OfParam OfProp node_shape kind_shape part_shape body_shape expr_shape link_shape param_shape prop_shape l

pub param_is : (p : Param) → param p ≡ record { label = p.label; default = default_of p.default }
unfolding default_of param
param_is p = fold_out-Param Shape Default OfPart OfBody Tree OfLink OfParam OfProp node_shape kind_shape part_shape body_shape expr_shape link_shape param_shape prop_shape p

pub prop_is : (p : Prop) → prop p ≡ record { label = p.label; value = tree_of p.value }
unfolding tree_of prop
prop_is p = fold_out-Prop Shape Default OfPart OfBody Tree OfLink OfParam OfProp node_shape kind_shape part_shape body_shape expr_shape link_shape param_shape prop_shape p

pub body_is : (b : Body) → body b ≡ record { lets = props_of (map prop (out-Body b).lets); result = tree_of (out-Body b).result }
unfolding tree_of shape_of default_of part prop param body link
body_is b = fold_out-Body Shape Default OfPart OfBody Tree OfLink OfParam OfProp node_shape kind_shape part_shape body_shape expr_shape link_shape param_shape prop_shape b

pub shape_int : (n : ℤ) → shape_of (node.Int n) ≡ int n
unfolding shape_of tree_of part prop param body link
shape_int n = ap shape_of (sym (node.rolls-Int n)) ∙ fold-roll-Node Shape Default OfPart OfBody Tree OfLink OfParam OfProp node_shape kind_shape part_shape body_shape expr_shape link_shape param_shape prop_shape (Node-F.Int n)

pub shape_time : (t : ℤ) → shape_of (node.Time t) ≡ time t
unfolding shape_of tree_of part prop param body link
shape_time t = ap shape_of (sym (node.rolls-Time t)) ∙ fold-roll-Node Shape Default OfPart OfBody Tree OfLink OfParam OfProp node_shape kind_shape part_shape body_shape expr_shape link_shape param_shape prop_shape (Node-F.Time t)

pub shape_span : (s : spans.Span) → shape_of (node.Span s) ≡ span s
unfolding shape_of tree_of part prop param body link
shape_span s = ap shape_of (sym (node.rolls-Span s)) ∙ fold-roll-Node Shape Default OfPart OfBody Tree OfLink OfParam OfProp node_shape kind_shape part_shape body_shape expr_shape link_shape param_shape prop_shape (Node-F.Span s)

pub shape_text : (ps : List Part) → shape_of (node.Text ps) ≡ text (parts_of (map part ps))
unfolding shape_of tree_of part prop param body link
shape_text ps = ap shape_of (sym (node.rolls-Text ps)) ∙ fold-roll-Node Shape Default OfPart OfBody Tree OfLink OfParam OfProp node_shape kind_shape part_shape body_shape expr_shape link_shape param_shape prop_shape (Node-F.Text ps)

pub shape_pattern : (s : List ℕ) → shape_of (node.Pattern s) ≡ pattern s
unfolding shape_of tree_of part prop param body link
shape_pattern s = ap shape_of (sym (node.rolls-Pattern s)) ∙ fold-roll-Node Shape Default OfPart OfBody Tree OfLink OfParam OfProp node_shape kind_shape part_shape body_shape expr_shape link_shape param_shape prop_shape (Node-F.Pattern s)

pub shape_name : (x : List ℕ) → shape_of (node.Name x) ≡ name x
unfolding shape_of tree_of part prop param body link
shape_name x = ap shape_of (sym (node.rolls-Name x)) ∙ fold-roll-Node Shape Default OfPart OfBody Tree OfLink OfParam OfProp node_shape kind_shape part_shape body_shape expr_shape link_shape param_shape prop_shape (Node-F.Name x)

pub shape_paren : (e : Expr) → shape_of (node.Paren e) ≡ paren (tree_of e)
unfolding shape_of tree_of part prop param body link
shape_paren e = ap shape_of (sym (node.rolls-Paren e)) ∙ fold-roll-Node Shape Default OfPart OfBody Tree OfLink OfParam OfProp node_shape kind_shape part_shape body_shape expr_shape link_shape param_shape prop_shape (Node-F.Paren e)

pub shape_array : (es : List Expr) → shape_of (node.Array es) ≡ array (trees_of (map tree_of es))
unfolding shape_of tree_of part prop param body link
shape_array es = ap shape_of (sym (node.rolls-Array es)) ∙ fold-roll-Node Shape Default OfPart OfBody Tree OfLink OfParam OfProp node_shape kind_shape part_shape body_shape expr_shape link_shape param_shape prop_shape (Node-F.Array es)

pub shape_rec : (base : Option (List ℕ)) (ps : List Prop) → shape_of (node.Rec base ps) ≡ rec base (props_of (map prop ps))
unfolding shape_of tree_of part prop param body link
shape_rec base ps = ap shape_of (sym (node.rolls-Rec base ps)) ∙ fold-roll-Node Shape Default OfPart OfBody Tree OfLink OfParam OfProp node_shape kind_shape part_shape body_shape expr_shape link_shape param_shape prop_shape (Node-F.Rec base ps)

pub shape_fun : (ps : List Param) (b : Body) → shape_of (node.Fun ps b) ≡ fun (params_of (map param ps)) (body b).lets (body b).result
unfolding shape_of tree_of part prop param body link
shape_fun ps b = ap shape_of (sym (node.rolls-Fun ps b)) ∙ fold-roll-Node Shape Default OfPart OfBody Tree OfLink OfParam OfProp node_shape kind_shape part_shape body_shape expr_shape link_shape param_shape prop_shape (Node-F.Fun ps b)

pub shape_call : (e : Expr) (ps : List Prop) → shape_of (node.Call e ps) ≡ call (tree_of e) (props_of (map prop ps))
unfolding shape_of tree_of part prop param body link
shape_call e ps = ap shape_of (sym (node.rolls-Call e ps)) ∙ fold-roll-Node Shape Default OfPart OfBody Tree OfLink OfParam OfProp node_shape kind_shape part_shape body_shape expr_shape link_shape param_shape prop_shape (Node-F.Call e ps)

pub shape_pipe : (e : Expr) (es : List Expr) → shape_of (node.Pipe e es) ≡ pipe (tree_of e) (trees_of (map tree_of es))
unfolding shape_of tree_of part prop param body link
shape_pipe e es = ap shape_of (sym (node.rolls-Pipe e es)) ∙ fold-roll-Node Shape Default OfPart OfBody Tree OfLink OfParam OfProp node_shape kind_shape part_shape body_shape expr_shape link_shape param_shape prop_shape (Node-F.«Node::Pipe» e es)

pub shape_member : (e : Expr) (x : List ℕ) → shape_of (node.Member e x) ≡ member (tree_of e) x
unfolding shape_of tree_of part prop param body link
shape_member e x = ap shape_of (sym (node.rolls-Member e x)) ∙ fold-roll-Node Shape Default OfPart OfBody Tree OfLink OfParam OfProp node_shape kind_shape part_shape body_shape expr_shape link_shape param_shape prop_shape (Node-F.Member e x)

pub shape_index : (e i : Expr) → shape_of (node.Index e i) ≡ index (tree_of e) (tree_of i)
unfolding shape_of tree_of part prop param body link
shape_index e i = ap shape_of (sym (node.rolls-Index e i)) ∙ fold-roll-Node Shape Default OfPart OfBody Tree OfLink OfParam OfProp node_shape kind_shape part_shape body_shape expr_shape link_shape param_shape prop_shape (Node-F.Index e i)

pub shape_chain : (e : Expr) (ls : List Link) → shape_of (node.Chain e ls) ≡ chain (tree_of e) (links_of (map link ls))
unfolding shape_of tree_of part prop param body link
shape_chain e ls = ap shape_of (sym (node.rolls-Chain e ls)) ∙ fold-roll-Node Shape Default OfPart OfBody Tree OfLink OfParam OfProp node_shape kind_shape part_shape body_shape expr_shape link_shape param_shape prop_shape (Node-F.Chain e ls)

pub shape_prefix : (s : signs.Prefix) (e : Expr) → shape_of (node.Prefix s e) ≡ prefix s (tree_of e)
unfolding shape_of tree_of part prop param body link
shape_prefix s e = ap shape_of (sym (node.rolls-Prefix s e)) ∙ fold-roll-Node Shape Default OfPart OfBody Tree OfLink OfParam OfProp node_shape kind_shape part_shape body_shape expr_shape link_shape param_shape prop_shape (Node-F.Prefix s e)

pub shape_if : (a b c : Expr) → shape_of (node.If a b c) ≡ if_then (tree_of a) (tree_of b) (tree_of c)
unfolding shape_of tree_of part prop param body link
shape_if a b c = ap shape_of (sym (node.rolls-If a b c)) ∙ fold-roll-Node Shape Default OfPart OfBody Tree OfLink OfParam OfProp node_shape kind_shape part_shape body_shape expr_shape link_shape param_shape prop_shape (Node-F.If a b c)

pub part_piece : (s : List ℕ) → part (part_variants.Piece s) ≡ a_piece s
unfolding part tree_of
part_piece s = ap part (sym (part_variants.rolls-Piece s)) ∙ fold-roll-Part Shape Default OfPart OfBody Tree OfLink OfParam OfProp node_shape kind_shape part_shape body_shape expr_shape link_shape param_shape prop_shape (Part-F.Piece s)

pub part_hole : (e : Expr) → part (part_variants.Hole e) ≡ a_hole (tree_of e)
unfolding part tree_of
part_hole e = ap part (sym (part_variants.rolls-Hole e)) ∙ fold-roll-Part Shape Default OfPart OfBody Tree OfLink OfParam OfProp node_shape kind_shape part_shape body_shape expr_shape link_shape param_shape prop_shape (Part-F.Hole e)

pub default_value : (e : Expr) → default_of (kind_variants.Value e) ≡ by_value (tree_of e)
unfolding default_of tree_of
default_value e = ap default_of (sym (kind_variants.rolls-Value e)) ∙ fold-roll-ParamKind Shape Default OfPart OfBody Tree OfLink OfParam OfProp node_shape kind_shape part_shape body_shape expr_shape link_shape param_shape prop_shape (ParamKind-F.Value e)

pub default_required : default_of kind_variants.Required ≡ required
unfolding default_of
default_required = ap default_of (sym kind_variants.rolls-Required) ∙ fold-roll-ParamKind Shape Default OfPart OfBody Tree OfLink OfParam OfProp node_shape kind_shape part_shape body_shape expr_shape link_shape param_shape prop_shape ParamKind-F.Required

pub default_pipe : default_of kind_variants.Pipe ≡ by_pipe
unfolding default_of
default_pipe = ap default_of (sym kind_variants.rolls-Pipe) ∙ fold-roll-ParamKind Shape Default OfPart OfBody Tree OfLink OfParam OfProp node_shape kind_shape part_shape body_shape expr_shape link_shape param_shape prop_shape ParamKind-F.«ParamKind::Pipe»

pub ruleset default_laws = (default_required, default_pipe, default_value)

-- ---- a struct that was put together

pub tree_made : (p : Place) (n : Node) → tree_of (roll-Expr (record { place = p; node = n })) ≡ tree p (shape_of n)
tree_made p n = tree_is (roll-Expr (record { place = p; node = n }))

pub link_made : (p : Place) (op : Infix) (e : Expr) → link (roll-Link (record { place = p; op = op; right = e })) ≡ record { place = p; op = op; right = tree_of e }
link_made p op e = link_is (roll-Link (record { place = p; op = op; right = e }))

pub param_made : (x : List ℕ) (d : ParamKind) → param (roll-Param (record { label = x; default = d })) ≡ record { label = x; default = default_of d }
param_made x d = param_is (roll-Param (record { label = x; default = d }))

pub prop_made : (x : List ℕ) (e : Expr) → prop (roll-Prop (record { label = x; value = e })) ≡ record { label = x; value = tree_of e }
prop_made x e = prop_is (roll-Prop (record { label = x; value = e }))

pub body_made : (lets : List Prop) (e : Expr) → body (roll-Body (record { lets = lets; result = e })) ≡ record { lets = props_of (map prop lets); result = tree_of e }
unfolding tree_of prop body
body_made lets e = fold-roll-Body Shape Default OfPart OfBody Tree OfLink OfParam OfProp node_shape kind_shape part_shape body_shape expr_shape link_shape param_shape prop_shape (record { lets = lets; result = e })
