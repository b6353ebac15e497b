-- The work of a tree, by its node.
use Rattle.std.proofs.Common.{◌≡◌, ℕ, List, subst, sym, ap, ◌∙◌}
use Rattle.std.specs.Prelude.{Option, Result}
use Rattle.fx_ast.proofs.ShapeLaws.{tree_is}
use Rattle.fx_ast.specs.Shape.{shape_of, tree_of}
use Rattle.fx_ast.specs.Tree.{Links, Parts, Props, Shape, Tree, Trees, array, call, chain, pipe, rec, text, tree}
use Rattle.fx_ast.specs.declared.expr.Expr.{Expr}
use Rattle.fx_meaning.specs.Meaning.{Tests}
use Rattle.fx_values.specs.declared.stop.Stop.{Stop}
use Rattle.fx_rowfn.specs.Frame.{Scope}
use Rattle.fx_rowfn.specs.State.{Leads, links_from, links_in, parts_from, parts_in, props_from, props_in, shape_left, tree_left, trees_from, trees_in}
use Rattle.fx_rowfn.specs.declared.frame.Next.{Next}

pub by_node : (e : Expr) (scope : Scope) (s : Shape) (r : Result Next Stop) → shape_of e.node ≡ s → ((test : Tests) → Leads (shape_left test scope e.place s) test r)
    → (test : Tests) → Leads (tree_left test scope (tree_of e)) test r
by_node e scope s r is leads = λ test. subst (λ t. Leads (tree_left test scope t) test r) (sym (tree_is e ∙ ap (tree e.place) is)) (leads test)

pub first_links : (e : Expr) (first : Tree) (ls : Links) → shape_of e.node ≡ chain first ls → shape_of e.node ≡ chain first (links_from (tree_of e) 0)
first_links e first ls is = is ∙ ap (chain first) (sym (ap (λ t. links_from t 0) (tree_is e) ∙ ap links_in is))

pub all_items : (e : Expr) (es : Trees) → shape_of e.node ≡ array es → shape_of e.node ≡ array (trees_from (tree_of e) 0)
all_items e es is = is ∙ ap array (sym (ap (λ t. trees_from t 0) (tree_is e) ∙ ap trees_in is))

pub all_props : (e : Expr) (base : Option (List ℕ)) (ps : Props) → shape_of e.node ≡ rec base ps → shape_of e.node ≡ rec base (props_from (tree_of e) 0)
all_props e base ps is = is ∙ ap (rec base) (sym (ap (λ t. props_from t 0) (tree_is e) ∙ ap props_in is))

pub all_parts : (e : Expr) (ps : Parts) → shape_of e.node ≡ text ps → shape_of e.node ≡ text (parts_from (tree_of e) 0)
all_parts e ps is = is ∙ ap text (sym (ap (λ t. parts_from t 0) (tree_is e) ∙ ap parts_in is))

pub all_args : (e : Expr) (callee : Tree) (ps : Props) → shape_of e.node ≡ call callee ps → shape_of e.node ≡ call callee (props_from (tree_of e) 0)
all_args e callee ps is = is ∙ ap (call callee) (sym (ap (λ t. props_from t 0) (tree_is e) ∙ ap props_in is))

pub all_calls : (e : Expr) (first : Tree) (es : Trees) → shape_of e.node ≡ pipe first es → shape_of e.node ≡ pipe first (trees_from (tree_of e) 0)
all_calls e first es is = is ∙ ap (pipe first) (sym (ap (λ t. trees_from t 0) (tree_is e) ∙ ap trees_in is))
