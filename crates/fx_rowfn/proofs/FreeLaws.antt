-- Which names are free in a tree, part by part.
use Rattle.std.proofs.Common.{◌≡◌, ℕ, true, false, List, ◌∷◌, map, refl, sym, ap, ◌∙◌}
use Rattle.std.specs.Prelude.{Bool, ◌||◌}
use Rattle.fx_ast.proofs.ShapeLaws.{body_is, default_required, default_pipe, default_value, link_is, param_is, part_hole, part_piece, prop_is, shape_array, shape_call, shape_chain, shape_fun, shape_if, shape_index, shape_int, shape_member, shape_name, shape_paren, shape_pattern, shape_pipe, shape_prefix, shape_rec, shape_span, shape_text, shape_time, tree_is}
use Rattle.fx_ast.specs.Free.{Need, name_of, free, free_default, free_lets, free_links, free_params, free_parts, free_props, free_shape, free_trees, is_named, unless}
use Rattle.fx_ast.specs.Free as specs
use Rattle.fx_ast.specs.Shape.{OfPart, a_piece, a_hole, body, default_of, link, links_of, param, params_of, part, parts_of, prop, props_of, shape_of, tree_of, trees_of}
use Rattle.fx_ast.specs.declared.expr.Body.{Body}
use Rattle.fx_ast.specs.declared.expr.Expr.{Expr}
use Rattle.fx_ast.specs.declared.expr.Link.{Link}
use Rattle.fx_ast.specs.declared.expr.Node.TheViews.{out-Body}
use Rattle.fx_ast.specs.declared.expr.Param.{Param}
use Rattle.fx_ast.specs.declared.expr.Part.{Part}
use Rattle.fx_ast.specs.declared.expr.Prop.{Prop}
use Rattle.fx_base.specs.Text.{same_text}
use Rattle.fx_rowfn.specs.Free.{in_part}

pub ruleset shape_laws = (shape_int, shape_time, shape_span, shape_text, shape_pattern, shape_name, shape_paren, shape_array, shape_rec, shape_fun, shape_call, shape_pipe, shape_member, shape_index, shape_chain, shape_prefix, shape_if)

pub ruleset part_laws = (default_required, default_pipe, default_value, part_piece, part_hole)

module _ (n : Need) where
  pub tree_at_node : (e : Expr) → free (tree_of e) n ≡ free_shape e.place (shape_of e.node) n
  tree_at_node e = ap (λ t. free t n) (tree_is e)

  pub trees_on : (e : Expr) → free (tree_of e) n ≡ false → (rest : List Expr) → free_trees (trees_of (map tree_of (e ∷ rest))) n ≡ free_trees (trees_of (map tree_of rest)) n
  trees_on e is rest = ap (λ b. b || free_trees (trees_of (map tree_of rest)) n) is

  pub trees_stop : (e : Expr) → free (tree_of e) n ≡ true → (rest : List Expr) → free_trees (trees_of (map tree_of (e ∷ rest))) n ≡ true
  trees_stop e is rest = ap (λ b. b || free_trees (trees_of (map tree_of rest)) n) is

  pub props_on : (p : Prop) → free (tree_of p.value) n ≡ false → (rest : List Prop) → free_props (props_of (map prop (p ∷ rest))) n ≡ free_props (props_of (map prop rest)) n
  props_on p is rest = ap (λ o. free o.value n || free_props (props_of (map prop rest)) n) (prop_is p) ∙ ap (λ b. b || free_props (props_of (map prop rest)) n) is

  pub props_stop : (p : Prop) → free (tree_of p.value) n ≡ true → (rest : List Prop) → free_props (props_of (map prop (p ∷ rest))) n ≡ true
  props_stop p is rest = ap (λ o. free o.value n || free_props (props_of (map prop rest)) n) (prop_is p) ∙ ap (λ b. b || free_props (props_of (map prop rest)) n) is

  pub links_on : (l : Link) → free (tree_of l.right) n ≡ false → (rest : List Link) → free_links (links_of (map link (l ∷ rest))) n ≡ free_links (links_of (map link rest)) n
  links_on l is rest = ap (λ o. free o.right n || free_links (links_of (map link rest)) n) (link_is l) ∙ ap (λ b. b || free_links (links_of (map link rest)) n) is

  pub links_stop : (l : Link) → free (tree_of l.right) n ≡ true → (rest : List Link) → free_links (links_of (map link (l ∷ rest))) n ≡ true
  links_stop l is rest = ap (λ o. free o.right n || free_links (links_of (map link rest)) n) (link_is l) ∙ ap (λ b. b || free_links (links_of (map link rest)) n) is

  pub params_on : (p : Param) → free_default (default_of p.default) n ≡ false → (rest : List Param) → free_params (params_of (map param (p ∷ rest))) n ≡ free_params (params_of (map param rest)) n
  params_on p is rest = ap (λ o. free_default o.default n || free_params (params_of (map param rest)) n) (param_is p) ∙ ap (λ b. b || free_params (params_of (map param rest)) n) is

  pub params_stop : (p : Param) → free_default (default_of p.default) n ≡ true → (rest : List Param) → free_params (params_of (map param (p ∷ rest))) n ≡ true
  params_stop p is rest = ap (λ o. free_default o.default n || free_params (params_of (map param rest)) n) (param_is p) ∙ ap (λ b. b || free_params (params_of (map param rest)) n) is

  with_part : (o : OfPart) (os : List OfPart) → free_parts (parts_of (o ∷ os)) n ≡ (in_part o n || free_parts (parts_of os) n)
  with_part (a_piece s) os = refl
  with_part (a_hole e) os = refl

  pub parts_on : (p : Part) → in_part (part p) n ≡ false → (rest : List Part) → free_parts (parts_of (map part (p ∷ rest))) n ≡ free_parts (parts_of (map part rest)) n
  parts_on p is rest = with_part (part p) (map part rest) ∙ ap (λ b. b || free_parts (parts_of (map part rest)) n) is

  pub parts_stop : (p : Part) → in_part (part p) n ≡ true → (rest : List Part) → free_parts (parts_of (map part (p ∷ rest))) n ≡ true
  parts_stop p is rest = with_part (part p) (map part rest) ∙ ap (λ b. b || free_parts (parts_of (map part rest)) n) is

-- assignments, before what stands behind them
module _ (y : List ℕ) (behind : Bool) where
  abbrev pub LetsFree : List Prop → Bool
  LetsFree ps = free_lets (props_of (map prop ps)) (name_of y) behind

  let_opened : (p : Prop) (rest : List Prop) → LetsFree (p ∷ rest) ≡ (free (tree_of p.value) (name_of y) || unless (same_text y p.label) (LetsFree rest))
  let_opened p rest = ap (λ o. free o.value (name_of y) || unless (same_text y o.label) (LetsFree rest)) (prop_is p)

  pub lets_found : (p : Prop) → free (tree_of p.value) (name_of y) ≡ true → (rest : List Prop) → LetsFree (p ∷ rest) ≡ true
  lets_found p is rest = let_opened p rest ∙ ap (λ b. b || unless (same_text y p.label) (LetsFree rest)) is

  pub lets_bound : (p : Prop) → free (tree_of p.value) (name_of y) ≡ false → same_text y p.label ≡ true → (rest : List Prop) → LetsFree (p ∷ rest) ≡ false
  lets_bound p is same rest =
      let_opened p rest ∙ ap (λ b. b || unless (same_text y p.label) (LetsFree rest)) is ∙ ap (λ b. unless b (LetsFree rest)) same

  pub lets_on : (p : Prop) → free (tree_of p.value) (name_of y) ≡ false → same_text y p.label ≡ false → (rest : List Prop) → LetsFree (p ∷ rest) ≡ LetsFree rest
  lets_on p is same rest =
      let_opened p rest ∙ ap (λ b. b || unless (same_text y p.label) (LetsFree rest)) is ∙ ap (λ b. unless b (LetsFree rest)) same

-- what is free in a body
pub body_free : (y : List ℕ) (b : Body) (items : List Prop) → items ≡ (out-Body b).lets
    → free_lets (body b).lets (name_of y) (free (body b).result (name_of y)) ≡ LetsFree y (free (body b).result (name_of y)) items
body_free y b items is =
    let behind = free (body b).result (name_of y) in
    ap (λ o. free_lets o.lets (name_of y) behind) (body_is b) ∙ ap (LetsFree y behind) (sym is)

-- whether a name is that of a parameter
pub bound_on : (y : List ℕ) (p : Param) → same_text y p.label ≡ false → (rest : List Param) → specs.is_param (params_of (map param (p ∷ rest))) (name_of y) ≡ specs.is_param (params_of (map param rest)) (name_of y)
bound_on y p is rest =
    ap (λ o. same_text y o.label || specs.is_param (params_of (map param rest)) (name_of y)) (param_is p) ∙ ap (λ b. b || specs.is_param (params_of (map param rest)) (name_of y)) is

pub bound_found : (y : List ℕ) (p : Param) → same_text y p.label ≡ true → (rest : List Param) → specs.is_param (params_of (map param (p ∷ rest))) (name_of y) ≡ true
bound_found y p is rest =
    ap (λ o. same_text y o.label || specs.is_param (params_of (map param rest)) (name_of y)) (param_is p) ∙ ap (λ b. b || specs.is_param (params_of (map param rest)) (name_of y)) is
