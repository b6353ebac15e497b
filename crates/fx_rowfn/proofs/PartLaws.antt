-- What stands at a place of a tree's node.
use Rattle.std.proofs.Common.{◌≡◌, ℕ, zero, suc, ◌+◌, ◌<◌, ◌≤◌, List, [], ◌∷◌, length, drop, get_or, map, refl, sym, ap, subst, ◌∙◌}
use Rattle.std.proofs.lemmas.List.{at_drop_more, at_drop_all}
use Rattle.std.specs.Prelude.{Option, None, Some}
use Rattle.std.specs.List.{HoldsAt}
use Rattle.std.specs.Option.{IfSome, MatchOption}
use Rattle.fx_ast.proofs.ShapeLaws.{shape_int, shape_time, shape_span, shape_text, shape_pattern, shape_name, shape_paren, shape_array, shape_rec, shape_fun, shape_call, shape_pipe, shape_member, shape_index, shape_chain, shape_prefix, shape_if, tree_is}
use Rattle.fx_ast.specs.Shape.{OfPart, a_piece, a_hole, link, links_of, part, parts_of, prop, props_of, shape_of, tree_of, trees_of}
use Rattle.fx_ast.specs.Tree.{Parts, Shape, no_trees, more_trees, no_props, more_props, no_links, more_links, no_parts}
use Rattle.fx_ast.specs.declared.expr.Body.{Body}
use Rattle.fx_ast.specs.declared.expr.Expr.{Expr}
use Rattle.fx_ast.specs.declared.expr.Link.{Link}
use Rattle.fx_ast.specs.declared.expr.Node.{Node}
use Rattle.fx_ast.specs.declared.expr.Node.TheOpen.{Node-F}
use Rattle.fx_ast.specs.declared.expr.Node.TheVariants as node
use Rattle.fx_ast.specs.declared.expr.Node.TheViews.{roll-Node, out-Node, roll-out-Node}
use Rattle.fx_ast.specs.declared.expr.Param.{Param}
use Rattle.fx_ast.specs.declared.expr.ParamKind.{ParamKind}
use Rattle.fx_ast.specs.declared.expr.Part.{Part}
use Rattle.fx_ast.specs.declared.expr.Prop.{Prop}
use Rattle.fx_rowfn.specs.Parts.{LinkAt, PartAt, PropAt, TreeAt, with_part}
use Rattle.fx_rowfn.specs.State.{links_from, links_in, links_past, parts_from, parts_in, parts_past, props_from, props_in, props_past, trees_from, trees_in, trees_past}
use denote.Bor.{Bor}

trees_layer : (n : Node) (l : Node-F Node ParamKind Part Body Expr Link Param Prop) → n ≡ roll-Node l → ((es : List Expr) → ¬ (n ≡ node.Array es)) → ((e : Expr) → (es : List Expr) → ¬ (n ≡ node.Pipe e es)) → trees_in (shape_of n) ≡ no_trees
trees_layer n (Node-F.Int k) is h0 h1 = ap trees_in (ap shape_of (is ∙ node.rolls-Int k) ∙ shape_int k)
trees_layer n (Node-F.Time k) is h0 h1 = ap trees_in (ap shape_of (is ∙ node.rolls-Time k) ∙ shape_time k)
trees_layer n (Node-F.Span k) is h0 h1 = ap trees_in (ap shape_of (is ∙ node.rolls-Span k) ∙ shape_span k)
trees_layer n (Node-F.Text k) is h0 h1 = ap trees_in (ap shape_of (is ∙ node.rolls-Text k) ∙ shape_text k)
trees_layer n (Node-F.Pattern k) is h0 h1 = ap trees_in (ap shape_of (is ∙ node.rolls-Pattern k) ∙ shape_pattern k)
trees_layer n (Node-F.Name k) is h0 h1 = ap trees_in (ap shape_of (is ∙ node.rolls-Name k) ∙ shape_name k)
trees_layer n (Node-F.Paren k) is h0 h1 = ap trees_in (ap shape_of (is ∙ node.rolls-Paren k) ∙ shape_paren k)
trees_layer n (Node-F.Array es) is h0 h1 = absurd (h0 es (is ∙ node.rolls-Array es))
trees_layer n (Node-F.Rec b ps) is h0 h1 = ap trees_in (ap shape_of (is ∙ node.rolls-Rec b ps) ∙ shape_rec b ps)
trees_layer n (Node-F.Fun ps b) is h0 h1 = ap trees_in (ap shape_of (is ∙ node.rolls-Fun ps b) ∙ shape_fun ps b)
trees_layer n (Node-F.Call e ps) is h0 h1 = ap trees_in (ap shape_of (is ∙ node.rolls-Call e ps) ∙ shape_call e ps)
trees_layer n (Node-F.«Node::Pipe» e es) is h0 h1 = absurd (h1 e es (is ∙ node.rolls-Pipe e es))
trees_layer n (Node-F.Member e x) is h0 h1 = ap trees_in (ap shape_of (is ∙ node.rolls-Member e x) ∙ shape_member e x)
trees_layer n (Node-F.Index e i) is h0 h1 = ap trees_in (ap shape_of (is ∙ node.rolls-Index e i) ∙ shape_index e i)
trees_layer n (Node-F.Chain e ls) is h0 h1 = ap trees_in (ap shape_of (is ∙ node.rolls-Chain e ls) ∙ shape_chain e ls)
trees_layer n (Node-F.Prefix s e) is h0 h1 = ap trees_in (ap shape_of (is ∙ node.rolls-Prefix s e) ∙ shape_prefix s e)
trees_layer n (Node-F.If a b c) is h0 h1 = ap trees_in (ap shape_of (is ∙ node.rolls-If a b c) ∙ shape_if a b c)

pub trees_else : (n : Node) → ((es : List Expr) → ¬ (n ≡ node.Array es)) → ((e : Expr) → (es : List Expr) → ¬ (n ≡ node.Pipe e es)) → trees_in (shape_of n) ≡ no_trees
trees_else n = trees_layer n (out-Node n) (sym (roll-out-Node n))

props_layer : (n : Node) (l : Node-F Node ParamKind Part Body Expr Link Param Prop) → n ≡ roll-Node l → ((b : Option (List ℕ)) → (ps : List Prop) → ¬ (n ≡ node.Rec b ps)) → ((e : Expr) → (ps : List Prop) → ¬ (n ≡ node.Call e ps)) → props_in (shape_of n) ≡ no_props
props_layer n (Node-F.Int k) is h0 h1 = ap props_in (ap shape_of (is ∙ node.rolls-Int k) ∙ shape_int k)
props_layer n (Node-F.Time k) is h0 h1 = ap props_in (ap shape_of (is ∙ node.rolls-Time k) ∙ shape_time k)
props_layer n (Node-F.Span k) is h0 h1 = ap props_in (ap shape_of (is ∙ node.rolls-Span k) ∙ shape_span k)
props_layer n (Node-F.Text k) is h0 h1 = ap props_in (ap shape_of (is ∙ node.rolls-Text k) ∙ shape_text k)
props_layer n (Node-F.Pattern k) is h0 h1 = ap props_in (ap shape_of (is ∙ node.rolls-Pattern k) ∙ shape_pattern k)
props_layer n (Node-F.Name k) is h0 h1 = ap props_in (ap shape_of (is ∙ node.rolls-Name k) ∙ shape_name k)
props_layer n (Node-F.Paren k) is h0 h1 = ap props_in (ap shape_of (is ∙ node.rolls-Paren k) ∙ shape_paren k)
props_layer n (Node-F.Array es) is h0 h1 = ap props_in (ap shape_of (is ∙ node.rolls-Array es) ∙ shape_array es)
props_layer n (Node-F.Rec b ps) is h0 h1 = absurd (h0 b ps (is ∙ node.rolls-Rec b ps))
props_layer n (Node-F.Fun ps b) is h0 h1 = ap props_in (ap shape_of (is ∙ node.rolls-Fun ps b) ∙ shape_fun ps b)
props_layer n (Node-F.Call e ps) is h0 h1 = absurd (h1 e ps (is ∙ node.rolls-Call e ps))
props_layer n (Node-F.«Node::Pipe» e es) is h0 h1 = ap props_in (ap shape_of (is ∙ node.rolls-Pipe e es) ∙ shape_pipe e es)
props_layer n (Node-F.Member e x) is h0 h1 = ap props_in (ap shape_of (is ∙ node.rolls-Member e x) ∙ shape_member e x)
props_layer n (Node-F.Index e i) is h0 h1 = ap props_in (ap shape_of (is ∙ node.rolls-Index e i) ∙ shape_index e i)
props_layer n (Node-F.Chain e ls) is h0 h1 = ap props_in (ap shape_of (is ∙ node.rolls-Chain e ls) ∙ shape_chain e ls)
props_layer n (Node-F.Prefix s e) is h0 h1 = ap props_in (ap shape_of (is ∙ node.rolls-Prefix s e) ∙ shape_prefix s e)
props_layer n (Node-F.If a b c) is h0 h1 = ap props_in (ap shape_of (is ∙ node.rolls-If a b c) ∙ shape_if a b c)

pub props_else : (n : Node) → ((b : Option (List ℕ)) → (ps : List Prop) → ¬ (n ≡ node.Rec b ps)) → ((e : Expr) → (ps : List Prop) → ¬ (n ≡ node.Call e ps)) → props_in (shape_of n) ≡ no_props
props_else n = props_layer n (out-Node n) (sym (roll-out-Node n))

links_layer : (n : Node) (l : Node-F Node ParamKind Part Body Expr Link Param Prop) → n ≡ roll-Node l → ((e : Expr) → (ls : List Link) → ¬ (n ≡ node.Chain e ls)) → links_in (shape_of n) ≡ no_links
links_layer n (Node-F.Int k) is h0 = ap links_in (ap shape_of (is ∙ node.rolls-Int k) ∙ shape_int k)
links_layer n (Node-F.Time k) is h0 = ap links_in (ap shape_of (is ∙ node.rolls-Time k) ∙ shape_time k)
links_layer n (Node-F.Span k) is h0 = ap links_in (ap shape_of (is ∙ node.rolls-Span k) ∙ shape_span k)
links_layer n (Node-F.Text k) is h0 = ap links_in (ap shape_of (is ∙ node.rolls-Text k) ∙ shape_text k)
links_layer n (Node-F.Pattern k) is h0 = ap links_in (ap shape_of (is ∙ node.rolls-Pattern k) ∙ shape_pattern k)
links_layer n (Node-F.Name k) is h0 = ap links_in (ap shape_of (is ∙ node.rolls-Name k) ∙ shape_name k)
links_layer n (Node-F.Paren k) is h0 = ap links_in (ap shape_of (is ∙ node.rolls-Paren k) ∙ shape_paren k)
links_layer n (Node-F.Array es) is h0 = ap links_in (ap shape_of (is ∙ node.rolls-Array es) ∙ shape_array es)
links_layer n (Node-F.Rec b ps) is h0 = ap links_in (ap shape_of (is ∙ node.rolls-Rec b ps) ∙ shape_rec b ps)
links_layer n (Node-F.Fun ps b) is h0 = ap links_in (ap shape_of (is ∙ node.rolls-Fun ps b) ∙ shape_fun ps b)
links_layer n (Node-F.Call e ps) is h0 = ap links_in (ap shape_of (is ∙ node.rolls-Call e ps) ∙ shape_call e ps)
links_layer n (Node-F.«Node::Pipe» e es) is h0 = ap links_in (ap shape_of (is ∙ node.rolls-Pipe e es) ∙ shape_pipe e es)
links_layer n (Node-F.Member e x) is h0 = ap links_in (ap shape_of (is ∙ node.rolls-Member e x) ∙ shape_member e x)
links_layer n (Node-F.Index e i) is h0 = ap links_in (ap shape_of (is ∙ node.rolls-Index e i) ∙ shape_index e i)
links_layer n (Node-F.Chain e ls) is h0 = absurd (h0 e ls (is ∙ node.rolls-Chain e ls))
links_layer n (Node-F.Prefix s e) is h0 = ap links_in (ap shape_of (is ∙ node.rolls-Prefix s e) ∙ shape_prefix s e)
links_layer n (Node-F.If a b c) is h0 = ap links_in (ap shape_of (is ∙ node.rolls-If a b c) ∙ shape_if a b c)

pub links_else : (n : Node) → ((e : Expr) → (ls : List Link) → ¬ (n ≡ node.Chain e ls)) → links_in (shape_of n) ≡ no_links
links_else n = links_layer n (out-Node n) (sym (roll-out-Node n))

parts_layer : (n : Node) (l : Node-F Node ParamKind Part Body Expr Link Param Prop) → n ≡ roll-Node l → ((ps : List Part) → ¬ (n ≡ node.Text ps)) → parts_in (shape_of n) ≡ no_parts
parts_layer n (Node-F.Int k) is h0 = ap parts_in (ap shape_of (is ∙ node.rolls-Int k) ∙ shape_int k)
parts_layer n (Node-F.Time k) is h0 = ap parts_in (ap shape_of (is ∙ node.rolls-Time k) ∙ shape_time k)
parts_layer n (Node-F.Span k) is h0 = ap parts_in (ap shape_of (is ∙ node.rolls-Span k) ∙ shape_span k)
parts_layer n (Node-F.Text k) is h0 = absurd (h0 k (is ∙ node.rolls-Text k))
parts_layer n (Node-F.Pattern k) is h0 = ap parts_in (ap shape_of (is ∙ node.rolls-Pattern k) ∙ shape_pattern k)
parts_layer n (Node-F.Name k) is h0 = ap parts_in (ap shape_of (is ∙ node.rolls-Name k) ∙ shape_name k)
parts_layer n (Node-F.Paren k) is h0 = ap parts_in (ap shape_of (is ∙ node.rolls-Paren k) ∙ shape_paren k)
parts_layer n (Node-F.Array es) is h0 = ap parts_in (ap shape_of (is ∙ node.rolls-Array es) ∙ shape_array es)
parts_layer n (Node-F.Rec b ps) is h0 = ap parts_in (ap shape_of (is ∙ node.rolls-Rec b ps) ∙ shape_rec b ps)
parts_layer n (Node-F.Fun ps b) is h0 = ap parts_in (ap shape_of (is ∙ node.rolls-Fun ps b) ∙ shape_fun ps b)
parts_layer n (Node-F.Call e ps) is h0 = ap parts_in (ap shape_of (is ∙ node.rolls-Call e ps) ∙ shape_call e ps)
parts_layer n (Node-F.«Node::Pipe» e es) is h0 = ap parts_in (ap shape_of (is ∙ node.rolls-Pipe e es) ∙ shape_pipe e es)
parts_layer n (Node-F.Member e x) is h0 = ap parts_in (ap shape_of (is ∙ node.rolls-Member e x) ∙ shape_member e x)
parts_layer n (Node-F.Index e i) is h0 = ap parts_in (ap shape_of (is ∙ node.rolls-Index e i) ∙ shape_index e i)
parts_layer n (Node-F.Chain e ls) is h0 = ap parts_in (ap shape_of (is ∙ node.rolls-Chain e ls) ∙ shape_chain e ls)
parts_layer n (Node-F.Prefix s e) is h0 = ap parts_in (ap shape_of (is ∙ node.rolls-Prefix s e) ∙ shape_prefix s e)
parts_layer n (Node-F.If a b c) is h0 = ap parts_in (ap shape_of (is ∙ node.rolls-If a b c) ∙ shape_if a b c)

pub parts_else : (n : Node) → ((ps : List Part) → ¬ (n ≡ node.Text ps)) → parts_in (shape_of n) ≡ no_parts
parts_else n = parts_layer n (out-Node n) (sym (roll-out-Node n))

found_at : {X R : Type 0} (whole : List X → R) (xs : List X) (n : ℕ) (x : X) → n < length xs → x ≡ get_or xs n x → whole (drop n xs) ≡ whole (x ∷ drop (n + 1) xs)
found_at whole xs n x below is = at_drop_more whole xs n x below ∙ ap (λ y. whole (y ∷ drop (n + 1) xs)) (sym is)

pub trees_none_past : (n : ℕ) → trees_past n no_trees ≡ no_trees
trees_none_past zero = refl
trees_none_past (suc n) = refl

pub trees_past_of : (n : ℕ) (xs : List Expr) → trees_past n (trees_of (map tree_of xs)) ≡ trees_of (map tree_of (drop n xs))
trees_past_of zero xs = refl
trees_past_of (suc n) [] = refl
trees_past_of (suc n) (x ∷ xs) = trees_past_of n xs

trees_list : (xs : List Expr) (n : ℕ) (r : Option (Bor Expr)) → IfSome r (λ x. x.now ≡ get_or xs n x.now)
    → MatchOption r (length xs ≤ n) (λ x. (n < length xs) × HoldsAt (λ y. x.now ≡ y) xs n) → TreeAt (λ k. trees_past k (trees_of (map tree_of xs))) n r
trees_list xs n None is found = trees_past_of n xs ∙ at_drop_all (λ l. trees_of (map tree_of l)) xs n found
trees_list xs n (Some x) is found =
    trees_past_of n xs ∙ found_at (λ l. trees_of (map tree_of l)) xs n x.now found.0 is ∙ ap (more_trees (tree_of x.now)) (sym (trees_past_of (n + 1) xs))

-- where the node has this list
pub trees_found : (e : Expr) (shape : Shape) (xs given : List Expr) (n : ℕ) (r : Option (Bor Expr)) → shape_of e.node ≡ shape → trees_in shape ≡ trees_of (map tree_of xs) → given ≡ xs
    → IfSome r (λ x. x.now ≡ get_or given n x.now) → MatchOption r (length given ≤ n) (λ x. (n < length given) × HoldsAt (λ y. x.now ≡ y) given n)
    → TreeAt (trees_from (tree_of e)) n r
trees_found e shape xs given n r is has same read found =
    let from : (λ k. trees_past k (trees_of (map tree_of given))) ≡ trees_from (tree_of e)
    = (λ i k. trees_past k ((ap (λ l. trees_of (map tree_of l)) same ∙ sym has ∙ sym (ap trees_in is)) i)) ∙ (λ i. trees_from (sym (tree_is e) i)) in
    subst (λ g. TreeAt g n r) from (trees_list given n r read found)

pub props_none_past : (n : ℕ) → props_past n no_props ≡ no_props
props_none_past zero = refl
props_none_past (suc n) = refl

pub props_past_of : (n : ℕ) (xs : List Prop) → props_past n (props_of (map prop xs)) ≡ props_of (map prop (drop n xs))
props_past_of zero xs = refl
props_past_of (suc n) [] = refl
props_past_of (suc n) (x ∷ xs) = props_past_of n xs

props_list : (xs : List Prop) (n : ℕ) (r : Option (Bor Prop)) → IfSome r (λ x. x.now ≡ get_or xs n x.now)
    → MatchOption r (length xs ≤ n) (λ x. (n < length xs) × HoldsAt (λ y. x.now ≡ y) xs n) → PropAt (λ k. props_past k (props_of (map prop xs))) n r
props_list xs n None is found = props_past_of n xs ∙ at_drop_all (λ l. props_of (map prop l)) xs n found
props_list xs n (Some x) is found =
    props_past_of n xs ∙ found_at (λ l. props_of (map prop l)) xs n x.now found.0 is ∙ ap (more_props (prop x.now).label (prop x.now).value) (sym (props_past_of (n + 1) xs))

-- where the node has this list
pub props_found : (e : Expr) (shape : Shape) (xs given : List Prop) (n : ℕ) (r : Option (Bor Prop)) → shape_of e.node ≡ shape → props_in shape ≡ props_of (map prop xs) → given ≡ xs
    → IfSome r (λ x. x.now ≡ get_or given n x.now) → MatchOption r (length given ≤ n) (λ x. (n < length given) × HoldsAt (λ y. x.now ≡ y) given n)
    → PropAt (props_from (tree_of e)) n r
props_found e shape xs given n r is has same read found =
    let from : (λ k. props_past k (props_of (map prop given))) ≡ props_from (tree_of e)
    = (λ i k. props_past k ((ap (λ l. props_of (map prop l)) same ∙ sym has ∙ sym (ap props_in is)) i)) ∙ (λ i. props_from (sym (tree_is e) i)) in
    subst (λ g. PropAt g n r) from (props_list given n r read found)

pub links_none_past : (n : ℕ) → links_past n no_links ≡ no_links
links_none_past zero = refl
links_none_past (suc n) = refl

pub links_past_of : (n : ℕ) (xs : List Link) → links_past n (links_of (map link xs)) ≡ links_of (map link (drop n xs))
links_past_of zero xs = refl
links_past_of (suc n) [] = refl
links_past_of (suc n) (x ∷ xs) = links_past_of n xs

links_list : (xs : List Link) (n : ℕ) (r : Option (Bor Link)) → IfSome r (λ x. x.now ≡ get_or xs n x.now)
    → MatchOption r (length xs ≤ n) (λ x. (n < length xs) × HoldsAt (λ y. x.now ≡ y) xs n) → LinkAt (λ k. links_past k (links_of (map link xs))) n r
links_list xs n None is found = links_past_of n xs ∙ at_drop_all (λ l. links_of (map link l)) xs n found
links_list xs n (Some x) is found =
    links_past_of n xs ∙ found_at (λ l. links_of (map link l)) xs n x.now found.0 is ∙ ap (more_links (link x.now).place (link x.now).op (link x.now).right) (sym (links_past_of (n + 1) xs))

-- where the node has this list
pub links_found : (e : Expr) (shape : Shape) (xs given : List Link) (n : ℕ) (r : Option (Bor Link)) → shape_of e.node ≡ shape → links_in shape ≡ links_of (map link xs) → given ≡ xs
    → IfSome r (λ x. x.now ≡ get_or given n x.now) → MatchOption r (length given ≤ n) (λ x. (n < length given) × HoldsAt (λ y. x.now ≡ y) given n)
    → LinkAt (links_from (tree_of e)) n r
links_found e shape xs given n r is has same read found =
    let from : (λ k. links_past k (links_of (map link given))) ≡ links_from (tree_of e)
    = (λ i k. links_past k ((ap (λ l. links_of (map link l)) same ∙ sym has ∙ sym (ap links_in is)) i)) ∙ (λ i. links_from (sym (tree_is e) i)) in
    subst (λ g. LinkAt g n r) from (links_list given n r read found)

pub parts_none_past : (n : ℕ) → parts_past n no_parts ≡ no_parts
parts_none_past zero = refl
parts_none_past (suc n) = refl

one_of_parts : (o : OfPart) (os : List OfPart) → parts_of (o ∷ os) ≡ with_part o (parts_of os)
one_of_parts (a_piece s) os = refl
one_of_parts (a_hole e) os = refl

one_past : (n : ℕ) (o : OfPart) (ps : Parts) → parts_past (suc n) (with_part o ps) ≡ parts_past n ps
one_past n (a_piece s) ps = refl
one_past n (a_hole e) ps = refl

pub parts_past_of : (n : ℕ) (xs : List Part) → parts_past n (parts_of (map part xs)) ≡ parts_of (map part (drop n xs))
parts_past_of zero xs = refl
parts_past_of (suc n) [] = refl
parts_past_of (suc n) (x ∷ xs) = ap (parts_past (suc n)) (one_of_parts (part x) (map part xs)) ∙ one_past n (part x) (parts_of (map part xs)) ∙ parts_past_of n xs

parts_list : (xs : List Part) (n : ℕ) (r : Option (Bor Part)) → IfSome r (λ x. x.now ≡ get_or xs n x.now)
    → MatchOption r (length xs ≤ n) (λ x. (n < length xs) × HoldsAt (λ y. x.now ≡ y) xs n) → PartAt (λ k. parts_past k (parts_of (map part xs))) n r
parts_list xs n None is found = parts_past_of n xs ∙ at_drop_all (λ l. parts_of (map part l)) xs n found
parts_list xs n (Some x) is found =
    parts_past_of n xs ∙ found_at (λ l. parts_of (map part l)) xs n x.now found.0 is
    ∙ one_of_parts (part x.now) (map part (drop (n + 1) xs)) ∙ ap (with_part (part x.now)) (sym (parts_past_of (n + 1) xs))

-- where the node has this list
pub parts_found : (e : Expr) (shape : Shape) (xs given : List Part) (n : ℕ) (r : Option (Bor Part)) → shape_of e.node ≡ shape → parts_in shape ≡ parts_of (map part xs) → given ≡ xs
    → IfSome r (λ x. x.now ≡ get_or given n x.now) → MatchOption r (length given ≤ n) (λ x. (n < length given) × HoldsAt (λ y. x.now ≡ y) given n)
    → PartAt (parts_from (tree_of e)) n r
parts_found e shape xs given n r is has same read found =
    let from : (λ k. parts_past k (parts_of (map part given))) ≡ parts_from (tree_of e)
    = (λ i k. parts_past k ((ap (λ l. parts_of (map part l)) same ∙ sym has ∙ sym (ap parts_in is)) i)) ∙ (λ i. parts_from (sym (tree_is e) i)) in
    subst (λ g. PartAt g n r) from (parts_list given n r read found)
