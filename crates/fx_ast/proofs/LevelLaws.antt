-- The levels in lists that grow at their end.
use Rattle.std.proofs.Common.{◌≡◌, ℕ, List, [], ◌∷◌, ◌++◌, map, refl, ap, ◌∙◌, arith}
use Rattle.std.specs.Prelude.{max}
use Rattle.fx_base.specs.declared.place.Place.{Place}
use Rattle.fx_ast.specs.declared.expr.Expr.{Expr}
use Rattle.fx_ast.specs.declared.expr.Infix.{Infix}
use Rattle.fx_ast.specs.declared.expr.Link.{Link, roll-Link}
use Rattle.fx_ast.specs.declared.expr.Param.{Param, roll-Param}
use Rattle.fx_ast.specs.declared.expr.ParamKind.{ParamKind}
use Rattle.fx_ast.specs.declared.expr.Part.{Part}
use Rattle.fx_ast.specs.declared.expr.Part.TheVariants as part_variants
use Rattle.fx_ast.specs.declared.expr.Prop.{Prop, roll-Prop}
use Rattle.fx_ast.specs.Levels.{height, in_trees, in_props, in_parts, in_links, in_params, in_default}
use Rattle.fx_ast.specs.Shape.{OfPart, OfProp, OfParam, OfLink, a_piece, a_hole, tree_of, default_of, part, prop, param, link, trees_of, parts_of, props_of, params_of, links_of}
use Rattle.fx_ast.specs.Tree.{Tree}
use Rattle.fx_ast.proofs.ListLaws.{trees_push, props_push, links_push, params_push, pieces_push, holes_push}

trees_levels : (ts : List Tree) (t : Tree) → in_trees (trees_of (ts ++ t ∷ [])) ≡ max (in_trees (trees_of ts)) (height t)
unfolding height
trees_levels [] t = grind arith
trees_levels (s ∷ ts) t = grind (arith, trees_levels ts t)

pub in_trees_push : (es : List Expr) (e : Expr) → in_trees (trees_of (map tree_of (es ++ e ∷ []))) ≡ max (in_trees (trees_of (map tree_of es))) (height (tree_of e))
in_trees_push es e = rw (trees_push es e) (trees_levels (map tree_of es) (tree_of e))

props_levels : (ts : List OfProp) (t : OfProp) → in_props (props_of (ts ++ t ∷ [])) ≡ max (in_props (props_of ts)) (height t.value)
unfolding height
props_levels [] t = grind arith
props_levels (s ∷ ts) t = grind (arith, props_levels ts t)

pub in_props_push : (ps : List Prop) (x : List ℕ) (e : Expr)
    → in_props (props_of (map prop (ps ++ roll-Prop (record { label = x; value = e }) ∷ []))) ≡ max (in_props (props_of (map prop ps))) (height (tree_of e))
in_props_push ps x e = rw (props_push ps x e) (props_levels (map prop ps) (record { label = x; value = tree_of e }))

links_levels : (ts : List OfLink) (t : OfLink) → in_links (links_of (ts ++ t ∷ [])) ≡ max (in_links (links_of ts)) (height t.right)
unfolding height
links_levels [] t = grind arith
links_levels (s ∷ ts) t = grind (arith, links_levels ts t)

pub in_links_push : (ls : List Link) (p : Place) (op : Infix) (e : Expr)
    → in_links (links_of (map link (ls ++ roll-Link (record { place = p; op = op; right = e }) ∷ []))) ≡ max (in_links (links_of (map link ls))) (height (tree_of e))
in_links_push ls p op e = rw (links_push ls p op e) (links_levels (map link ls) (record { place = p; op = op; right = tree_of e }))

params_levels : (ts : List OfParam) (t : OfParam) → in_params (params_of (ts ++ t ∷ [])) ≡ max (in_params (params_of ts)) (in_default t.default)
unfolding height
params_levels [] t = grind arith
params_levels (s ∷ ts) t = grind (arith, params_levels ts t)

pub in_params_push : (ps : List Param) (x : List ℕ) (d : ParamKind)
    → in_params (params_of (map param (ps ++ roll-Param (record { label = x; default = d }) ∷ []))) ≡ max (in_params (params_of (map param ps))) (in_default (default_of d))
in_params_push ps x d = rw (params_push ps x d) (params_levels (map param ps) (record { label = x; default = default_of d }))

pieces_levels : (ps : List OfPart) (s : List ℕ) → in_parts (parts_of (ps ++ a_piece s ∷ [])) ≡ in_parts (parts_of ps)
unfolding height
pieces_levels [] s = refl
pieces_levels (a_piece t ∷ ps) s = pieces_levels ps s
pieces_levels (a_hole e ∷ ps) s = ap (max (height e)) (pieces_levels ps s)

pub in_pieces_push : (ps : List Part) (s : List ℕ) → in_parts (parts_of (map part (ps ++ part_variants.Piece s ∷ []))) ≡ in_parts (parts_of (map part ps))
in_pieces_push ps s = rw (pieces_push ps s) (pieces_levels (map part ps) s)

holes_levels : (ps : List OfPart) (t : Tree) → in_parts (parts_of (ps ++ a_hole t ∷ [])) ≡ max (in_parts (parts_of ps)) (height t)
unfolding height
holes_levels [] t = grind arith
holes_levels (a_piece s ∷ ps) t = holes_levels ps t
holes_levels (a_hole e ∷ ps) t = grind (arith, holes_levels ps t)

pub in_holes_push : (ps : List Part) (e : Expr) → in_parts (parts_of (map part (ps ++ part_variants.Hole e ∷ []))) ≡ max (in_parts (parts_of (map part ps))) (height (tree_of e))
in_holes_push ps e = rw (holes_push ps e) (holes_levels (map part ps) (tree_of e))
