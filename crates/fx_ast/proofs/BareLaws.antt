-- The equations of trees without places, and what a node is where its tree without places is known.
use Rattle.std.proofs.Common.{◌≡◌, ◌↔◌, sym, ap, subst, ◌∙◌, map, ℕ, List, arith}
use Rattle.std.specs.Prelude.{ℤ, Option}
use Rattle.fx_time.specs.declared.span.Span as spans
use Rattle.fx_ast.specs.declared.expr.Body.{Body}
use Rattle.fx_ast.specs.declared.expr.Expr.{Expr}
use Rattle.fx_ast.specs.declared.expr.Link.{Link}
use Rattle.fx_ast.specs.declared.expr.Node.{Node}
use Rattle.fx_ast.specs.declared.expr.Param.{Param}
use Rattle.fx_ast.specs.declared.expr.ParamKind.{ParamKind}
use Rattle.fx_ast.specs.declared.expr.Part.{Part}
use Rattle.fx_ast.specs.declared.expr.Prop.{Prop}
use Rattle.fx_ast.specs.declared.expr.Prefix as signs
use Rattle.fx_ast.specs.declared.expr.Node.TheViews.{roll-Node, out-Node, roll-out-Node}
use Rattle.fx_ast.specs.declared.expr.Node.TheOpen.{Node-F}
use Rattle.fx_ast.specs.declared.expr.Node.TheVariants as node
use Rattle.fx_ast.specs.Bare.{bare, bare_shape, bare_trees, bare_parts, bare_props, bare_params, bare_links, bare_body}
use Rattle.fx_ast.specs.Shape.{tree_of, shape_of, part, body, link, param, prop, trees_of, parts_of, props_of, links_of, params_of}
use Rattle.fx_ast.specs.Tree.{Shape, int, time, span, text, pattern, name, paren, array, rec, fun, call, pipe, member, index, chain, prefix, if_then}
use Rattle.fx_ast.proofs.ShapeLaws.{shape_int, shape_time, shape_span, shape_text, shape_pattern, shape_name, shape_paren, shape_array, shape_rec, shape_fun, shape_call, shape_pipe, shape_member, shape_index, shape_chain, shape_prefix, shape_if}

pub bare_int : (k : ℤ) → bare_shape (shape_of (node.Int k)) ≡ int k
unfolding bare_shape
bare_int k = ap bare_shape (shape_int k)

pub bare_time : (t : ℤ) → bare_shape (shape_of (node.Time t)) ≡ time t
unfolding bare_shape
bare_time t = ap bare_shape (shape_time t)

pub bare_span : (s : spans.Span) → bare_shape (shape_of (node.Span s)) ≡ span s
unfolding bare_shape
bare_span s = ap bare_shape (shape_span s)

pub bare_text : (ps : List Part) → bare_shape (shape_of (node.Text ps)) ≡ text (bare_parts (parts_of (map part ps)))
unfolding bare_shape
bare_text ps = ap bare_shape (shape_text ps)

pub bare_pattern : (s : List ℕ) → bare_shape (shape_of (node.Pattern s)) ≡ pattern s
unfolding bare_shape
bare_pattern s = ap bare_shape (shape_pattern s)

pub bare_name : (x : List ℕ) → bare_shape (shape_of (node.Name x)) ≡ name x
unfolding bare_shape
bare_name x = ap bare_shape (shape_name x)

pub bare_paren : (e : Expr) → bare_shape (shape_of (node.Paren e)) ≡ paren (bare (tree_of e))
unfolding bare_shape
bare_paren e = ap bare_shape (shape_paren e)

pub bare_array : (es : List Expr) → bare_shape (shape_of (node.Array es)) ≡ array (bare_trees (trees_of (map tree_of es)))
unfolding bare_shape
bare_array es = ap bare_shape (shape_array es)

pub bare_rec : (base : Option (List ℕ)) (ps : List Prop) → bare_shape (shape_of (node.Rec base ps)) ≡ rec base (bare_props (props_of (map prop ps)))
unfolding bare_shape
bare_rec base ps = ap bare_shape (shape_rec base ps)

pub bare_fun : (ps : List Param) (b : Body) → bare_shape (shape_of (node.Fun ps b)) ≡ fun (bare_params (params_of (map param ps))) (bare_props (body b).lets) (bare (body b).result)
unfolding bare_shape
bare_fun ps b = ap bare_shape (shape_fun ps b)

pub bare_call : (e : Expr) (ps : List Prop) → bare_shape (shape_of (node.Call e ps)) ≡ call (bare (tree_of e)) (bare_props (props_of (map prop ps)))
unfolding bare_shape
bare_call e ps = ap bare_shape (shape_call e ps)

pub bare_pipe : (e : Expr) (es : List Expr) → bare_shape (shape_of (node.Pipe e es)) ≡ pipe (bare (tree_of e)) (bare_trees (trees_of (map tree_of es)))
unfolding bare_shape
bare_pipe e es = ap bare_shape (shape_pipe e es)

pub bare_member : (e : Expr) (x : List ℕ) → bare_shape (shape_of (node.Member e x)) ≡ member (bare (tree_of e)) x
unfolding bare_shape
bare_member e x = ap bare_shape (shape_member e x)

pub bare_index : (e i : Expr) → bare_shape (shape_of (node.Index e i)) ≡ index (bare (tree_of e)) (bare (tree_of i))
unfolding bare_shape
bare_index e i = ap bare_shape (shape_index e i)

pub bare_chain : (e : Expr) (ls : List Link) → bare_shape (shape_of (node.Chain e ls)) ≡ chain (bare (tree_of e)) (bare_links (links_of (map link ls)))
unfolding bare_shape
bare_chain e ls = ap bare_shape (shape_chain e ls)

pub bare_prefix : (s : signs.Prefix) (e : Expr) → bare_shape (shape_of (node.Prefix s e)) ≡ prefix s (bare (tree_of e))
unfolding bare_shape
bare_prefix s e = ap bare_shape (shape_prefix s e)

pub bare_if : (a b c : Expr) → bare_shape (shape_of (node.If a b c)) ≡ if_then (bare (tree_of a)) (bare (tree_of b)) (bare (tree_of c))
unfolding bare_shape
bare_if a b c = ap bare_shape (shape_if a b c)

abbrev pub Opens : Node → Shape → Type 0
Opens n (int _) = (k : ℤ) × (n ≡ node.Int k)
Opens n (time _) = (t : ℤ) × (n ≡ node.Time t)
Opens n (span _) = (s : spans.Span) × (n ≡ node.Span s)
Opens n (text _) = (ps : List Part) × (n ≡ node.Text ps)
Opens n (pattern _) = (s : List ℕ) × (n ≡ node.Pattern s)
Opens n (name _) = (x : List ℕ) × (n ≡ node.Name x)
Opens n (paren _) = (e : Expr) × (n ≡ node.Paren e)
Opens n (array _) = (es : List Expr) × (n ≡ node.Array es)
Opens n (rec _ _) = (base : Option (List ℕ)) × (ps : List Prop) × (n ≡ node.Rec base ps)
Opens n (fun _ _ _) = (ps : List Param) × (b : Body) × (n ≡ node.Fun ps b)
Opens n (call _ _) = (e : Expr) × (ps : List Prop) × (n ≡ node.Call e ps)
Opens n (pipe _ _) = (e : Expr) × (es : List Expr) × (n ≡ node.Pipe e es)
Opens n (member _ _) = (e : Expr) × (x : List ℕ) × (n ≡ node.Member e x)
Opens n (index _ _) = (e : Expr) × (i : Expr) × (n ≡ node.Index e i)
Opens n (chain _ _) = (e : Expr) × (ls : List Link) × (n ≡ node.Chain e ls)
Opens n (prefix _ _) = (s : signs.Prefix) × (e : Expr) × (n ≡ node.Prefix s e)
Opens n (if_then _ _ _) = (a : Expr) × (b : Expr) × (c : Expr) × (n ≡ node.If a b c)

opened : (n m : Node) (s : Shape) → n ≡ m → bare_shape (shape_of m) ≡ s → Opens n s → Opens n (bare_shape (shape_of n))
opened n m s same told opens = subst (Opens n) (sym (ap (λ x. bare_shape (shape_of x)) same ∙ told)) opens

opens_layer : (n : Node) (l : Node-F Node ParamKind Part Body Expr Link Param Prop) → n ≡ roll-Node l → Opens n (bare_shape (shape_of n))
opens_layer n (Node-F.Int k) is = let same = is ∙ node.rolls-Int k in opened n (node.Int k) (int k) same (bare_int k) (k, same)
opens_layer n (Node-F.Time t) is = let same = is ∙ node.rolls-Time t in opened n (node.Time t) (time t) same (bare_time t) (t, same)
opens_layer n (Node-F.Span s) is = let same = is ∙ node.rolls-Span s in opened n (node.Span s) (span s) same (bare_span s) (s, same)
opens_layer n (Node-F.Text ps) is = let same = is ∙ node.rolls-Text ps in opened n (node.Text ps) (text (bare_parts (parts_of (map part ps)))) same (bare_text ps) (ps, same)
opens_layer n (Node-F.Pattern s) is = let same = is ∙ node.rolls-Pattern s in opened n (node.Pattern s) (pattern s) same (bare_pattern s) (s, same)
opens_layer n (Node-F.Name x) is = let same = is ∙ node.rolls-Name x in opened n (node.Name x) (name x) same (bare_name x) (x, same)
opens_layer n (Node-F.Paren e) is = let same = is ∙ node.rolls-Paren e in opened n (node.Paren e) (paren (bare (tree_of e))) same (bare_paren e) (e, same)
opens_layer n (Node-F.Array es) is = let same = is ∙ node.rolls-Array es in opened n (node.Array es) (array (bare_trees (trees_of (map tree_of es)))) same (bare_array es) (es, same)
opens_layer n (Node-F.Rec base ps) is = let same = is ∙ node.rolls-Rec base ps in opened n (node.Rec base ps) (rec base (bare_props (props_of (map prop ps)))) same (bare_rec base ps) (base, ps, same)
opens_layer n (Node-F.Fun ps b) is = let same = is ∙ node.rolls-Fun ps b in opened n (node.Fun ps b) (fun (bare_params (params_of (map param ps))) (bare_props (body b).lets) (bare (body b).result)) same (bare_fun ps b) (ps, b, same)
opens_layer n (Node-F.Call e ps) is = let same = is ∙ node.rolls-Call e ps in opened n (node.Call e ps) (call (bare (tree_of e)) (bare_props (props_of (map prop ps)))) same (bare_call e ps) (e, ps, same)
opens_layer n (Node-F.«Node::Pipe» e es) is = let same = is ∙ node.rolls-Pipe e es in opened n (node.Pipe e es) (pipe (bare (tree_of e)) (bare_trees (trees_of (map tree_of es)))) same (bare_pipe e es) (e, es, same)
opens_layer n (Node-F.Member e x) is = let same = is ∙ node.rolls-Member e x in opened n (node.Member e x) (member (bare (tree_of e)) x) same (bare_member e x) (e, x, same)
opens_layer n (Node-F.Index e i) is = let same = is ∙ node.rolls-Index e i in opened n (node.Index e i) (index (bare (tree_of e)) (bare (tree_of i))) same (bare_index e i) (e, i, same)
opens_layer n (Node-F.Chain e ls) is = let same = is ∙ node.rolls-Chain e ls in opened n (node.Chain e ls) (chain (bare (tree_of e)) (bare_links (links_of (map link ls)))) same (bare_chain e ls) (e, ls, same)
opens_layer n (Node-F.Prefix s e) is = let same = is ∙ node.rolls-Prefix s e in opened n (node.Prefix s e) (prefix s (bare (tree_of e))) same (bare_prefix s e) (s, e, same)
opens_layer n (Node-F.If a b c) is = let same = is ∙ node.rolls-If a b c in opened n (node.If a b c) (if_then (bare (tree_of a)) (bare (tree_of b)) (bare (tree_of c))) same (bare_if a b c) (a, b, c, same)

pub opens : (n : Node) → Opens n (bare_shape (shape_of n))
opens n = opens_layer n (out-Node n) (sym (roll-out-Node n))

pub not_int : (l r : Node) (k : ℤ) → l ≡ node.Int k → ((k : ℤ) → r ≡ node.Int k → ⊥) → bare_shape (shape_of l) ≡ bare_shape (shape_of r) → ⊥
not_int l r k is none same =
    let (k2, found) = subst (Opens r) (sym same ∙ ap (λ x. bare_shape (shape_of x)) is ∙ bare_int k) (opens r) in none k2 found

pub not_time : (l r : Node) (t : ℤ) → l ≡ node.Time t → ((t : ℤ) → r ≡ node.Time t → ⊥) → bare_shape (shape_of l) ≡ bare_shape (shape_of r) → ⊥
not_time l r t is none same =
    let (t2, found) = subst (Opens r) (sym same ∙ ap (λ x. bare_shape (shape_of x)) is ∙ bare_time t) (opens r) in none t2 found

pub not_span : (l r : Node) (s : spans.Span) → l ≡ node.Span s → ((s : spans.Span) → r ≡ node.Span s → ⊥) → bare_shape (shape_of l) ≡ bare_shape (shape_of r) → ⊥
not_span l r s is none same =
    let (s2, found) = subst (Opens r) (sym same ∙ ap (λ x. bare_shape (shape_of x)) is ∙ bare_span s) (opens r) in none s2 found

pub not_text : (l r : Node) (ps : List Part) → l ≡ node.Text ps → ((ps : List Part) → r ≡ node.Text ps → ⊥) → bare_shape (shape_of l) ≡ bare_shape (shape_of r) → ⊥
not_text l r ps is none same =
    let (ps2, found) = subst (Opens r) (sym same ∙ ap (λ x. bare_shape (shape_of x)) is ∙ bare_text ps) (opens r) in none ps2 found

pub not_pattern : (l r : Node) (s : List ℕ) → l ≡ node.Pattern s → ((s : List ℕ) → r ≡ node.Pattern s → ⊥) → bare_shape (shape_of l) ≡ bare_shape (shape_of r) → ⊥
not_pattern l r s is none same =
    let (s2, found) = subst (Opens r) (sym same ∙ ap (λ x. bare_shape (shape_of x)) is ∙ bare_pattern s) (opens r) in none s2 found

pub not_name : (l r : Node) (x : List ℕ) → l ≡ node.Name x → ((x : List ℕ) → r ≡ node.Name x → ⊥) → bare_shape (shape_of l) ≡ bare_shape (shape_of r) → ⊥
not_name l r x is none same =
    let (x2, found) = subst (Opens r) (sym same ∙ ap (λ x. bare_shape (shape_of x)) is ∙ bare_name x) (opens r) in none x2 found

pub not_paren : (l r : Node) (e : Expr) → l ≡ node.Paren e → ((e : Expr) → r ≡ node.Paren e → ⊥) → bare_shape (shape_of l) ≡ bare_shape (shape_of r) → ⊥
not_paren l r e is none same =
    let (e2, found) = subst (Opens r) (sym same ∙ ap (λ x. bare_shape (shape_of x)) is ∙ bare_paren e) (opens r) in none e2 found

pub not_array : (l r : Node) (es : List Expr) → l ≡ node.Array es → ((es : List Expr) → r ≡ node.Array es → ⊥) → bare_shape (shape_of l) ≡ bare_shape (shape_of r) → ⊥
not_array l r es is none same =
    let (es2, found) = subst (Opens r) (sym same ∙ ap (λ x. bare_shape (shape_of x)) is ∙ bare_array es) (opens r) in none es2 found

pub not_rec : (l r : Node) (base : Option (List ℕ)) (ps : List Prop) → l ≡ node.Rec base ps → ((base : Option (List ℕ)) (ps : List Prop) → r ≡ node.Rec base ps → ⊥) → bare_shape (shape_of l) ≡ bare_shape (shape_of r) → ⊥
not_rec l r base ps is none same =
    let (base2, ps2, found) = subst (Opens r) (sym same ∙ ap (λ x. bare_shape (shape_of x)) is ∙ bare_rec base ps) (opens r) in none base2 ps2 found

pub not_fun : (l r : Node) (ps : List Param) (b : Body) → l ≡ node.Fun ps b → ((ps : List Param) (b : Body) → r ≡ node.Fun ps b → ⊥) → bare_shape (shape_of l) ≡ bare_shape (shape_of r) → ⊥
not_fun l r ps b is none same =
    let (ps2, b2, found) = subst (Opens r) (sym same ∙ ap (λ x. bare_shape (shape_of x)) is ∙ bare_fun ps b) (opens r) in none ps2 b2 found

pub not_call : (l r : Node) (e : Expr) (ps : List Prop) → l ≡ node.Call e ps → ((e : Expr) (ps : List Prop) → r ≡ node.Call e ps → ⊥) → bare_shape (shape_of l) ≡ bare_shape (shape_of r) → ⊥
not_call l r e ps is none same =
    let (e2, ps2, found) = subst (Opens r) (sym same ∙ ap (λ x. bare_shape (shape_of x)) is ∙ bare_call e ps) (opens r) in none e2 ps2 found

pub not_pipe : (l r : Node) (e : Expr) (es : List Expr) → l ≡ node.Pipe e es → ((e : Expr) (es : List Expr) → r ≡ node.Pipe e es → ⊥) → bare_shape (shape_of l) ≡ bare_shape (shape_of r) → ⊥
not_pipe l r e es is none same =
    let (e2, es2, found) = subst (Opens r) (sym same ∙ ap (λ x. bare_shape (shape_of x)) is ∙ bare_pipe e es) (opens r) in none e2 es2 found

pub not_member : (l r : Node) (e : Expr) (x : List ℕ) → l ≡ node.Member e x → ((e : Expr) (x : List ℕ) → r ≡ node.Member e x → ⊥) → bare_shape (shape_of l) ≡ bare_shape (shape_of r) → ⊥
not_member l r e x is none same =
    let (e2, x2, found) = subst (Opens r) (sym same ∙ ap (λ x. bare_shape (shape_of x)) is ∙ bare_member e x) (opens r) in none e2 x2 found

pub not_index : (l r : Node) (e i : Expr) → l ≡ node.Index e i → ((e i : Expr) → r ≡ node.Index e i → ⊥) → bare_shape (shape_of l) ≡ bare_shape (shape_of r) → ⊥
not_index l r e i is none same =
    let (e2, i2, found) = subst (Opens r) (sym same ∙ ap (λ x. bare_shape (shape_of x)) is ∙ bare_index e i) (opens r) in none e2 i2 found

pub not_chain : (l r : Node) (e : Expr) (ls : List Link) → l ≡ node.Chain e ls → ((e : Expr) (ls : List Link) → r ≡ node.Chain e ls → ⊥) → bare_shape (shape_of l) ≡ bare_shape (shape_of r) → ⊥
not_chain l r e ls is none same =
    let (e2, ls2, found) = subst (Opens r) (sym same ∙ ap (λ x. bare_shape (shape_of x)) is ∙ bare_chain e ls) (opens r) in none e2 ls2 found

pub not_prefix : (l r : Node) (s : signs.Prefix) (e : Expr) → l ≡ node.Prefix s e → ((s : signs.Prefix) (e : Expr) → r ≡ node.Prefix s e → ⊥) → bare_shape (shape_of l) ≡ bare_shape (shape_of r) → ⊥
not_prefix l r s e is none same =
    let (s2, e2, found) = subst (Opens r) (sym same ∙ ap (λ x. bare_shape (shape_of x)) is ∙ bare_prefix s e) (opens r) in none s2 e2 found

pub not_if : (l r : Node) (a b c : Expr) → l ≡ node.If a b c → ((a b c : Expr) → r ≡ node.If a b c → ⊥) → bare_shape (shape_of l) ≡ bare_shape (shape_of r) → ⊥
not_if l r a b c is none same =
    let (a2, b2, c2, found) = subst (Opens r) (sym same ∙ ap (λ x. bare_shape (shape_of x)) is ∙ bare_if a b c) (opens r) in none a2 b2 c2 found

pub both_int : (l r : Node) (k k2 : ℤ) → l ≡ node.Int k → r ≡ node.Int k2 → (bare_shape (shape_of l) ≡ bare_shape (shape_of r)) ↔ (k ≡ k2)
both_int l r k k2 left right = rw (left, right, bare_int k, bare_int k2) grind arith

pub both_time : (l r : Node) (t t2 : ℤ) → l ≡ node.Time t → r ≡ node.Time t2 → (bare_shape (shape_of l) ≡ bare_shape (shape_of r)) ↔ (t ≡ t2)
both_time l r t t2 left right = rw (left, right, bare_time t, bare_time t2) grind arith

pub both_span : (l r : Node) (s s2 : spans.Span) → l ≡ node.Span s → r ≡ node.Span s2 → (bare_shape (shape_of l) ≡ bare_shape (shape_of r)) ↔ (s ≡ s2)
both_span l r s s2 left right = rw (left, right, bare_span s, bare_span s2) grind arith

pub both_text : (l r : Node) (ps ps2 : List Part) → l ≡ node.Text ps → r ≡ node.Text ps2 → (bare_shape (shape_of l) ≡ bare_shape (shape_of r)) ↔ (bare_parts (parts_of (map part ps)) ≡ bare_parts (parts_of (map part ps2)))
both_text l r ps ps2 left right = rw (left, right, bare_text ps, bare_text ps2) grind arith

pub both_pattern : (l r : Node) (s s2 : List ℕ) → l ≡ node.Pattern s → r ≡ node.Pattern s2 → (bare_shape (shape_of l) ≡ bare_shape (shape_of r)) ↔ (s ≡ s2)
both_pattern l r s s2 left right = rw (left, right, bare_pattern s, bare_pattern s2) grind arith

pub both_name : (l r : Node) (x x2 : List ℕ) → l ≡ node.Name x → r ≡ node.Name x2 → (bare_shape (shape_of l) ≡ bare_shape (shape_of r)) ↔ (x ≡ x2)
both_name l r x x2 left right = rw (left, right, bare_name x, bare_name x2) grind arith

pub both_paren : (l r : Node) (e e2 : Expr) → l ≡ node.Paren e → r ≡ node.Paren e2 → (bare_shape (shape_of l) ≡ bare_shape (shape_of r)) ↔ (bare (tree_of e) ≡ bare (tree_of e2))
both_paren l r e e2 left right = rw (left, right, bare_paren e, bare_paren e2) grind arith

pub both_array : (l r : Node) (es es2 : List Expr) → l ≡ node.Array es → r ≡ node.Array es2 → (bare_shape (shape_of l) ≡ bare_shape (shape_of r)) ↔ (bare_trees (trees_of (map tree_of es)) ≡ bare_trees (trees_of (map tree_of es2)))
both_array l r es es2 left right = rw (left, right, bare_array es, bare_array es2) grind arith

pub both_rec : (l r : Node) (base base2 : Option (List ℕ)) (ps ps2 : List Prop) → l ≡ node.Rec base ps → r ≡ node.Rec base2 ps2 → (bare_shape (shape_of l) ≡ bare_shape (shape_of r)) ↔ ((base ≡ base2) × (bare_props (props_of (map prop ps)) ≡ bare_props (props_of (map prop ps2))))
both_rec l r base base2 ps ps2 left right = rw (left, right, bare_rec base ps, bare_rec base2 ps2) grind arith

pub both_fun : (l r : Node) (ps ps2 : List Param) (b b2 : Body) → l ≡ node.Fun ps b → r ≡ node.Fun ps2 b2 → (bare_shape (shape_of l) ≡ bare_shape (shape_of r)) ↔ ((bare_params (params_of (map param ps)) ≡ bare_params (params_of (map param ps2))) × (bare_body (body b) ≡ bare_body (body b2)))
both_fun l r ps ps2 b b2 left right = rw (left, right, bare_fun ps b, bare_fun ps2 b2) grind arith

pub both_call : (l r : Node) (e e2 : Expr) (ps ps2 : List Prop) → l ≡ node.Call e ps → r ≡ node.Call e2 ps2 → (bare_shape (shape_of l) ≡ bare_shape (shape_of r)) ↔ ((bare (tree_of e) ≡ bare (tree_of e2)) × (bare_props (props_of (map prop ps)) ≡ bare_props (props_of (map prop ps2))))
both_call l r e e2 ps ps2 left right = rw (left, right, bare_call e ps, bare_call e2 ps2) grind arith

pub both_pipe : (l r : Node) (e e2 : Expr) (es es2 : List Expr) → l ≡ node.Pipe e es → r ≡ node.Pipe e2 es2 → (bare_shape (shape_of l) ≡ bare_shape (shape_of r)) ↔ ((bare (tree_of e) ≡ bare (tree_of e2)) × (bare_trees (trees_of (map tree_of es)) ≡ bare_trees (trees_of (map tree_of es2))))
both_pipe l r e e2 es es2 left right = rw (left, right, bare_pipe e es, bare_pipe e2 es2) grind arith

pub both_member : (l r : Node) (e e2 : Expr) (x x2 : List ℕ) → l ≡ node.Member e x → r ≡ node.Member e2 x2 → (bare_shape (shape_of l) ≡ bare_shape (shape_of r)) ↔ ((bare (tree_of e) ≡ bare (tree_of e2)) × (x ≡ x2))
both_member l r e e2 x x2 left right = rw (left, right, bare_member e x, bare_member e2 x2) grind arith

pub both_index : (l r : Node) (e e2 : Expr) (i i2 : Expr) → l ≡ node.Index e i → r ≡ node.Index e2 i2 → (bare_shape (shape_of l) ≡ bare_shape (shape_of r)) ↔ ((bare (tree_of e) ≡ bare (tree_of e2)) × (bare (tree_of i) ≡ bare (tree_of i2)))
both_index l r e e2 i i2 left right = rw (left, right, bare_index e i, bare_index e2 i2) grind arith

pub both_chain : (l r : Node) (e e2 : Expr) (ls ls2 : List Link) → l ≡ node.Chain e ls → r ≡ node.Chain e2 ls2 → (bare_shape (shape_of l) ≡ bare_shape (shape_of r)) ↔ ((bare (tree_of e) ≡ bare (tree_of e2)) × (bare_links (links_of (map link ls)) ≡ bare_links (links_of (map link ls2))))
both_chain l r e e2 ls ls2 left right = rw (left, right, bare_chain e ls, bare_chain e2 ls2) grind arith

pub both_prefix : (l r : Node) (s s2 : signs.Prefix) (e e2 : Expr) → l ≡ node.Prefix s e → r ≡ node.Prefix s2 e2 → (bare_shape (shape_of l) ≡ bare_shape (shape_of r)) ↔ ((s ≡ s2) × (bare (tree_of e) ≡ bare (tree_of e2)))
both_prefix l r s s2 e e2 left right = rw (left, right, bare_prefix s e, bare_prefix s2 e2) grind arith

pub both_if : (l r : Node) (a a2 : Expr) (b b2 : Expr) (c c2 : Expr) → l ≡ node.If a b c → r ≡ node.If a2 b2 c2 → (bare_shape (shape_of l) ≡ bare_shape (shape_of r)) ↔ ((bare (tree_of a) ≡ bare (tree_of a2)) × ((bare (tree_of b) ≡ bare (tree_of b2)) × (bare (tree_of c) ≡ bare (tree_of c2))))
both_if l r a a2 b b2 c c2 left right = rw (left, right, bare_if a b c, bare_if a2 b2 c2) grind arith
