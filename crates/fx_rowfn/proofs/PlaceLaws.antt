-- The place of the first token of a tree that is no index.
use Rattle.std.proofs.Common.{◌≡◌, sym, ap, ◌∙◌}
use Rattle.fx_ast.proofs.ShapeLaws.{shape_int, shape_time, shape_span, shape_text, shape_pattern, shape_name, shape_paren, shape_array, shape_rec, shape_fun, shape_call, shape_pipe, shape_member, shape_chain, shape_prefix, shape_if}
use Rattle.fx_ast.specs.Places.{first_place}
use Rattle.fx_ast.specs.Shape.{shape_of}
use Rattle.fx_ast.specs.Tree.{tree}
use Rattle.fx_ast.specs.declared.expr.Body.{Body}
use Rattle.fx_ast.specs.declared.expr.Expr.{Expr}
use Rattle.fx_ast.specs.declared.expr.Link.{Link}
use Rattle.fx_ast.specs.declared.expr.Node.{Node}
use Rattle.fx_ast.specs.declared.expr.Node.TheOpen.{Node-F}
use Rattle.fx_ast.specs.declared.expr.Node.TheVariants as node
use Rattle.fx_ast.specs.declared.expr.Node.TheViews.{roll-Node, out-Node, roll-out-Node}
use Rattle.fx_ast.specs.declared.expr.Param.{Param}
use Rattle.fx_ast.specs.declared.expr.ParamKind.{ParamKind}
use Rattle.fx_ast.specs.declared.expr.Part.{Part}
use Rattle.fx_ast.specs.declared.expr.Prop.{Prop}
use Rattle.fx_base.specs.declared.place.Place.{Place}

module _ (p : Place) where
  first_layer : (n : Node) (l : Node-F Node ParamKind Part Body Expr Link Param Prop) → n ≡ roll-Node l → ((e at : Expr) → ¬ (n ≡ node.Index e at)) → first_place (tree p (shape_of n)) ≡ p
  first_layer n (Node-F.Int k) is h = ap (λ s. first_place (tree p s)) (ap shape_of (is ∙ node.rolls-Int k) ∙ shape_int k)
  first_layer n (Node-F.Time k) is h = ap (λ s. first_place (tree p s)) (ap shape_of (is ∙ node.rolls-Time k) ∙ shape_time k)
  first_layer n (Node-F.Span k) is h = ap (λ s. first_place (tree p s)) (ap shape_of (is ∙ node.rolls-Span k) ∙ shape_span k)
  first_layer n (Node-F.Text k) is h = ap (λ s. first_place (tree p s)) (ap shape_of (is ∙ node.rolls-Text k) ∙ shape_text k)
  first_layer n (Node-F.Pattern k) is h = ap (λ s. first_place (tree p s)) (ap shape_of (is ∙ node.rolls-Pattern k) ∙ shape_pattern k)
  first_layer n (Node-F.Name k) is h = ap (λ s. first_place (tree p s)) (ap shape_of (is ∙ node.rolls-Name k) ∙ shape_name k)
  first_layer n (Node-F.Paren k) is h = ap (λ s. first_place (tree p s)) (ap shape_of (is ∙ node.rolls-Paren k) ∙ shape_paren k)
  first_layer n (Node-F.Array es) is h = ap (λ s. first_place (tree p s)) (ap shape_of (is ∙ node.rolls-Array es) ∙ shape_array es)
  first_layer n (Node-F.Rec b ps) is h = ap (λ s. first_place (tree p s)) (ap shape_of (is ∙ node.rolls-Rec b ps) ∙ shape_rec b ps)
  first_layer n (Node-F.Fun ps b) is h = ap (λ s. first_place (tree p s)) (ap shape_of (is ∙ node.rolls-Fun ps b) ∙ shape_fun ps b)
  first_layer n (Node-F.Call e ps) is h = ap (λ s. first_place (tree p s)) (ap shape_of (is ∙ node.rolls-Call e ps) ∙ shape_call e ps)
  first_layer n (Node-F.«Node::Pipe» e es) is h = ap (λ s. first_place (tree p s)) (ap shape_of (is ∙ node.rolls-Pipe e es) ∙ shape_pipe e es)
  first_layer n (Node-F.Member e x) is h = ap (λ s. first_place (tree p s)) (ap shape_of (is ∙ node.rolls-Member e x) ∙ shape_member e x)
  first_layer n (Node-F.Index e i) is h = absurd (h e i (is ∙ node.rolls-Index e i))
  first_layer n (Node-F.Chain e ls) is h = ap (λ s. first_place (tree p s)) (ap shape_of (is ∙ node.rolls-Chain e ls) ∙ shape_chain e ls)
  first_layer n (Node-F.Prefix sign e) is h = ap (λ s. first_place (tree p s)) (ap shape_of (is ∙ node.rolls-Prefix sign e) ∙ shape_prefix sign e)
  first_layer n (Node-F.If a b c) is h = ap (λ s. first_place (tree p s)) (ap shape_of (is ∙ node.rolls-If a b c) ∙ shape_if a b c)

  pub first_else : (n : Node) → ((e at : Expr) → ¬ (n ≡ node.Index e at)) → first_place (tree p (shape_of n)) ≡ p
  first_else n = first_layer n (out-Node n) (sym (roll-out-Node n))
