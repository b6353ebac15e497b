-- Lists in a tree: the two ways between them and ordinary lists, and lists that grow at their end.
use Rattle.std.proofs.Common.{◌≡◌, ℕ, List, [], ◌∷◌, ◌++◌, map, refl, ap, ◌∙◌}
use Rattle.std.proofs.lemmas.List.{map-append}
use Rattle.fx_base.specs.declared.place.Place.{Place}
use Rattle.fx_ast.specs.declared.expr.Expr.{Expr}
use Rattle.fx_ast.specs.declared.expr.Infix.{Infix}
use Rattle.fx_ast.specs.declared.expr.Link.{Link, roll-Link}
use Rattle.fx_ast.specs.declared.expr.Param.{Param, roll-Param}
use Rattle.fx_ast.specs.declared.expr.ParamKind.{ParamKind}
use Rattle.fx_ast.specs.declared.expr.Part.{Part}
use Rattle.fx_ast.specs.declared.expr.Part.TheVariants as part_variants
use Rattle.fx_ast.specs.declared.expr.Prop.{Prop, roll-Prop}
use Rattle.fx_ast.specs.Lists.{tree_list, part_list, prop_list, param_list, link_list, ahead, part_before, prop_before, param_before, link_before, trees_before, parts_before, props_before, params_before, links_before}
use Rattle.fx_ast.specs.Shape.{OfPart, a_piece, a_hole, OfProp, OfParam, OfLink, tree_of, default_of, part, prop, param, link, trees_of, parts_of, props_of, params_of, links_of}
use Rattle.fx_ast.specs.Tree.{Tree, Trees, no_trees, more_trees, Parts, no_parts, piece, hole, Props, no_props, more_props, Params, no_params, more_params, Links, no_links, more_links}
use Rattle.fx_ast.proofs.ShapeLaws.{part_piece, part_hole, prop_made, param_made, link_made}

-- ---- there and back

pub trees_there : (ts : List Tree) → tree_list (trees_of ts) ≡ ts
trees_there [] = refl
trees_there (t ∷ ts) = ap (λ l. t ∷ l) (trees_there ts)

pub trees_back : (ts : Trees) → trees_of (tree_list ts) ≡ ts
trees_back no_trees = refl
trees_back (more_trees t ts) = ap (more_trees t) (trees_back ts)

pub parts_there : (ps : List OfPart) → part_list (parts_of ps) ≡ ps
parts_there [] = refl
parts_there (a_piece s ∷ ps) = ap (λ l. a_piece s ∷ l) (parts_there ps)
parts_there (a_hole e ∷ ps) = ap (λ l. a_hole e ∷ l) (parts_there ps)

pub parts_back : (ps : Parts) → parts_of (part_list ps) ≡ ps
parts_back no_parts = refl
parts_back (piece s ps) = ap (piece s) (parts_back ps)
parts_back (hole e ps) = ap (hole e) (parts_back ps)

pub props_there : (ps : List OfProp) → prop_list (props_of ps) ≡ ps
props_there [] = refl
props_there (p ∷ ps) = ap (λ l. p ∷ l) (props_there ps)

pub props_back : (ps : Props) → props_of (prop_list ps) ≡ ps
props_back no_props = refl
props_back (more_props x e ps) = ap (more_props x e) (props_back ps)

pub params_there : (ps : List OfParam) → param_list (params_of ps) ≡ ps
params_there [] = refl
params_there (p ∷ ps) = ap (λ l. p ∷ l) (params_there ps)

pub params_back : (ps : Params) → params_of (param_list ps) ≡ ps
params_back no_params = refl
params_back (more_params x d ps) = ap (more_params x d) (params_back ps)

pub links_there : (ls : List OfLink) → link_list (links_of ls) ≡ ls
links_there [] = refl
links_there (l ∷ ls) = ap (λ rest. l ∷ rest) (links_there ls)

pub links_back : (ls : Links) → links_of (link_list ls) ≡ ls
links_back no_links = refl
links_back (more_links place op e ls) = ap (more_links place op e) (links_back ls)

-- ---- one item more, seen as plain data

pub trees_push : (es : List Expr) (e : Expr) → map tree_of (es ++ e ∷ []) ≡ map tree_of es ++ tree_of e ∷ []
trees_push es e = map-append tree_of es (e ∷ [])

pub pieces_push : (ps : List Part) (s : List ℕ) → map part (ps ++ part_variants.Piece s ∷ []) ≡ map part ps ++ a_piece s ∷ []
pieces_push ps s = map-append part ps (part_variants.Piece s ∷ []) ∙ ap (λ p. map part ps ++ p ∷ []) (part_piece s)

pub holes_push : (ps : List Part) (e : Expr) → map part (ps ++ part_variants.Hole e ∷ []) ≡ map part ps ++ a_hole (tree_of e) ∷ []
holes_push ps e = map-append part ps (part_variants.Hole e ∷ []) ∙ ap (λ p. map part ps ++ p ∷ []) (part_hole e)

pub props_push : (ps : List Prop) (x : List ℕ) (e : Expr)
    → map prop (ps ++ roll-Prop (record { label = x; value = e }) ∷ []) ≡ map prop ps ++ record { label = x; value = tree_of e } ∷ []
props_push ps x e = map-append prop ps (roll-Prop (record { label = x; value = e }) ∷ []) ∙ ap (λ p. map prop ps ++ p ∷ []) (prop_made x e)

pub params_push : (ps : List Param) (x : List ℕ) (d : ParamKind)
    → map param (ps ++ roll-Param (record { label = x; default = d }) ∷ []) ≡ map param ps ++ record { label = x; default = default_of d } ∷ []
params_push ps x d = map-append param ps (roll-Param (record { label = x; default = d }) ∷ []) ∙ ap (λ p. map param ps ++ p ∷ []) (param_made x d)

pub links_push : (ls : List Link) (p : Place) (op : Infix) (e : Expr)
    → map link (ls ++ roll-Link (record { place = p; op = op; right = e }) ∷ []) ≡ map link ls ++ record { place = p; op = op; right = tree_of e } ∷ []
links_push ls p op e = map-append link ls (roll-Link (record { place = p; op = op; right = e }) ∷ []) ∙ ap (λ l. map link ls ++ l ∷ []) (link_made p op e)

-- ---- items before a list

pub ahead_push : {A L : Type 0} (cons : A → L → L) (xs : List A) (x : A) (rest : L) → ahead cons (xs ++ x ∷ []) rest ≡ ahead cons xs (cons x rest)
ahead_push cons [] x rest = refl
ahead_push cons (y ∷ xs) x rest = ap (cons y) (ahead_push cons xs x rest)

pub trees_more : (es : List Expr) (e : Expr) (rest : Trees) → trees_before (es ++ e ∷ []) rest ≡ trees_before es (more_trees (tree_of e) rest)
trees_more es e rest = ap (λ ts. ahead more_trees ts rest) (trees_push es e) ∙ ahead_push more_trees (map tree_of es) (tree_of e) rest

pub pieces_more : (ps : List Part) (s : List ℕ) (rest : Parts) → parts_before (ps ++ part_variants.Piece s ∷ []) rest ≡ parts_before ps (piece s rest)
pieces_more ps s rest = ap (λ l. ahead part_before l rest) (pieces_push ps s) ∙ ahead_push part_before (map part ps) (a_piece s) rest

pub holes_more : (ps : List Part) (e : Expr) (rest : Parts) → parts_before (ps ++ part_variants.Hole e ∷ []) rest ≡ parts_before ps (hole (tree_of e) rest)
holes_more ps e rest = ap (λ l. ahead part_before l rest) (holes_push ps e) ∙ ahead_push part_before (map part ps) (a_hole (tree_of e)) rest

pub props_more : (ps : List Prop) (x : List ℕ) (e : Expr) (rest : Props)
    → props_before (ps ++ roll-Prop (record { label = x; value = e }) ∷ []) rest ≡ props_before ps (more_props x (tree_of e) rest)
props_more ps x e rest = ap (λ l. ahead prop_before l rest) (props_push ps x e) ∙ ahead_push prop_before (map prop ps) (record { label = x; value = tree_of e }) rest

pub params_more : (ps : List Param) (x : List ℕ) (d : ParamKind) (rest : Params)
    → params_before (ps ++ roll-Param (record { label = x; default = d }) ∷ []) rest ≡ params_before ps (more_params x (default_of d) rest)
params_more ps x d rest = ap (λ l. ahead param_before l rest) (params_push ps x d) ∙ ahead_push param_before (map param ps) (record { label = x; default = default_of d }) rest

pub links_more : (ls : List Link) (p : Place) (op : Infix) (e : Expr) (rest : Links)
    → links_before (ls ++ roll-Link (record { place = p; op = op; right = e }) ∷ []) rest ≡ links_before ls (more_links p op (tree_of e) rest)
links_more ls p op e rest = ap (λ l. ahead link_before l rest) (links_push ls p op e) ∙ ahead_push link_before (map link ls) (record { place = p; op = op; right = tree_of e }) rest

-- ---- items before nothing

pub trees_end : (ts : List Tree) → ahead more_trees ts no_trees ≡ trees_of ts
trees_end [] = refl
trees_end (t ∷ ts) = ap (more_trees t) (trees_end ts)

pub trees_all : (es : List Expr) → trees_before es no_trees ≡ trees_of (map tree_of es)
trees_all es = trees_end (map tree_of es)

pub parts_end : (ps : List OfPart) → ahead part_before ps no_parts ≡ parts_of ps
parts_end [] = refl
parts_end (a_piece s ∷ ps) = ap (piece s) (parts_end ps)
parts_end (a_hole e ∷ ps) = ap (hole e) (parts_end ps)

pub parts_all : (ps : List Part) → parts_before ps no_parts ≡ parts_of (map part ps)
parts_all ps = parts_end (map part ps)

pub props_end : (ps : List OfProp) → ahead prop_before ps no_props ≡ props_of ps
props_end [] = refl
props_end (p ∷ ps) = ap (more_props p.label p.value) (props_end ps)

pub props_all : (ps : List Prop) → props_before ps no_props ≡ props_of (map prop ps)
props_all ps = props_end (map prop ps)

pub params_end : (ps : List OfParam) → ahead param_before ps no_params ≡ params_of ps
params_end [] = refl
params_end (p ∷ ps) = ap (more_params p.label p.default) (params_end ps)

pub params_all : (ps : List Param) → params_before ps no_params ≡ params_of (map param ps)
params_all ps = params_end (map param ps)

pub links_end : (ls : List OfLink) → ahead link_before ls no_links ≡ links_of ls
links_end [] = refl
links_end (l ∷ ls) = ap (more_links l.place l.op l.right) (links_end ls)

pub links_all : (ls : List Link) → links_before ls no_links ≡ links_of (map link ls)
links_all ls = links_end (map link ls)
