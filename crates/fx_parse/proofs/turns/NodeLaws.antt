-- What the parser asks of each kind of node: the levels below it, and whether it is a call or a text.
use Rattle.std.proofs.Common.{◌≡◌, ℕ, true, false, List, map, sym, ap, ◌∙◌}
use Rattle.std.specs.Prelude.{ℤ, max, Option, None}
use Rattle.fx_base.specs.declared.place.Place.{Place}
use Rattle.fx_time.specs.declared.span.Span.{Span}
use Rattle.fx_ast.specs.declared.expr.Body.{Body}
use Rattle.fx_ast.specs.declared.expr.Expr.{Expr}
use Rattle.fx_ast.specs.declared.expr.Link.{Link}
use Rattle.fx_ast.specs.declared.expr.Param.{Param}
use Rattle.fx_ast.specs.declared.expr.Part.{Part}
use Rattle.fx_ast.specs.declared.expr.Prop.{Prop}
use Rattle.fx_ast.specs.declared.expr.Prefix.{Prefix}
use Rattle.fx_ast.specs.declared.expr.Node.TheVariants as node
use Rattle.fx_ast.specs.Shape.{tree_of, shape_of, part, body, link, param, prop, trees_of, parts_of, props_of, links_of, params_of}
use Rattle.fx_ast.specs.Tree.{tree, pipe}
use Rattle.fx_ast.proofs.ShapeLaws.{tree_is, part_piece, shape_int, shape_time, shape_span, shape_pattern, shape_name, shape_text, shape_paren, shape_array, shape_rec, shape_fun, shape_call, shape_pipe, shape_member, shape_index, shape_chain, shape_prefix, shape_if}
use Rattle.fx_parse.specs.Grammar.{is_call}
use Rattle.fx_ast.specs.Levels.{below, height, in_trees, in_parts, in_props, in_params, in_links}
use Rattle.fx_parse.specs.Measures.{plain_of}

pub below_int : (n : ℤ) → below (shape_of (node.Int n)) ≡ 0
unfolding height
below_int n = ap below (shape_int n)

pub calls_int : (p : Place) (n : ℤ) → is_call (tree p (shape_of (node.Int n))) ≡ false
calls_int p n = ap (λ s. is_call (tree p s)) (shape_int n)

pub says_int : (p : Place) (n : ℤ) → plain_of (tree p (shape_of (node.Int n))) ≡ None
says_int p n = ap (λ s. plain_of (tree p s)) (shape_int n)

pub below_time : (t : ℤ) → below (shape_of (node.Time t)) ≡ 0
unfolding height
below_time t = ap below (shape_time t)

pub calls_time : (p : Place) (t : ℤ) → is_call (tree p (shape_of (node.Time t))) ≡ false
calls_time p t = ap (λ s. is_call (tree p s)) (shape_time t)

pub says_time : (p : Place) (t : ℤ) → plain_of (tree p (shape_of (node.Time t))) ≡ None
says_time p t = ap (λ s. plain_of (tree p s)) (shape_time t)

pub below_span : (s : Span) → below (shape_of (node.Span s)) ≡ 0
unfolding height
below_span s = ap below (shape_span s)

pub calls_span : (p : Place) (s : Span) → is_call (tree p (shape_of (node.Span s))) ≡ false
calls_span p s = ap (λ s. is_call (tree p s)) (shape_span s)

pub says_span : (p : Place) (s : Span) → plain_of (tree p (shape_of (node.Span s))) ≡ None
says_span p s = ap (λ s. plain_of (tree p s)) (shape_span s)

pub below_pattern : (s : List ℕ) → below (shape_of (node.Pattern s)) ≡ 0
unfolding height
below_pattern s = ap below (shape_pattern s)

pub calls_pattern : (p : Place) (s : List ℕ) → is_call (tree p (shape_of (node.Pattern s))) ≡ false
calls_pattern p s = ap (λ s. is_call (tree p s)) (shape_pattern s)

pub says_pattern : (p : Place) (s : List ℕ) → plain_of (tree p (shape_of (node.Pattern s))) ≡ None
says_pattern p s = ap (λ s. plain_of (tree p s)) (shape_pattern s)

pub below_name : (x : List ℕ) → below (shape_of (node.Name x)) ≡ 0
unfolding height
below_name x = ap below (shape_name x)

pub calls_name : (p : Place) (x : List ℕ) → is_call (tree p (shape_of (node.Name x))) ≡ false
calls_name p x = ap (λ s. is_call (tree p s)) (shape_name x)

pub says_name : (p : Place) (x : List ℕ) → plain_of (tree p (shape_of (node.Name x))) ≡ None
says_name p x = ap (λ s. plain_of (tree p s)) (shape_name x)

pub below_text : (ps : List Part) → below (shape_of (node.Text ps)) ≡ in_parts (parts_of (map part ps))
unfolding height
below_text ps = ap below (shape_text ps)

pub calls_text : (p : Place) (ps : List Part) → is_call (tree p (shape_of (node.Text ps))) ≡ false
calls_text p ps = ap (λ s. is_call (tree p s)) (shape_text ps)

pub below_paren : (e : Expr) → below (shape_of (node.Paren e)) ≡ height (tree_of e)
unfolding height
below_paren e = ap below (shape_paren e)

pub calls_paren : (p : Place) (e : Expr) → is_call (tree p (shape_of (node.Paren e))) ≡ false
calls_paren p e = ap (λ s. is_call (tree p s)) (shape_paren e)

pub says_paren : (p : Place) (e : Expr) → plain_of (tree p (shape_of (node.Paren e))) ≡ None
says_paren p e = ap (λ s. plain_of (tree p s)) (shape_paren e)

pub below_array : (es : List Expr) → below (shape_of (node.Array es)) ≡ in_trees (trees_of (map tree_of es))
unfolding height
below_array es = ap below (shape_array es)

pub calls_array : (p : Place) (es : List Expr) → is_call (tree p (shape_of (node.Array es))) ≡ false
calls_array p es = ap (λ s. is_call (tree p s)) (shape_array es)

pub says_array : (p : Place) (es : List Expr) → plain_of (tree p (shape_of (node.Array es))) ≡ None
says_array p es = ap (λ s. plain_of (tree p s)) (shape_array es)

pub below_rec : (base : Option (List ℕ)) (ps : List Prop) → below (shape_of (node.Rec base ps)) ≡ in_props (props_of (map prop ps))
unfolding height
below_rec base ps = ap below (shape_rec base ps)

pub calls_rec : (p : Place) (base : Option (List ℕ)) (ps : List Prop) → is_call (tree p (shape_of (node.Rec base ps))) ≡ false
calls_rec p base ps = ap (λ s. is_call (tree p s)) (shape_rec base ps)

pub says_rec : (p : Place) (base : Option (List ℕ)) (ps : List Prop) → plain_of (tree p (shape_of (node.Rec base ps))) ≡ None
says_rec p base ps = ap (λ s. plain_of (tree p s)) (shape_rec base ps)

pub below_fun : (ps : List Param) (b : Body) → below (shape_of (node.Fun ps b)) ≡ max (in_params (params_of (map param ps))) (max (in_props (body b).lets) (height (body b).result))
unfolding height
below_fun ps b = ap below (shape_fun ps b)

pub calls_fun : (p : Place) (ps : List Param) (b : Body) → is_call (tree p (shape_of (node.Fun ps b))) ≡ false
calls_fun p ps b = ap (λ s. is_call (tree p s)) (shape_fun ps b)

pub says_fun : (p : Place) (ps : List Param) (b : Body) → plain_of (tree p (shape_of (node.Fun ps b))) ≡ None
says_fun p ps b = ap (λ s. plain_of (tree p s)) (shape_fun ps b)

pub below_call : (e : Expr) (ps : List Prop) → below (shape_of (node.Call e ps)) ≡ max (height (tree_of e)) (in_props (props_of (map prop ps)))
unfolding height
below_call e ps = ap below (shape_call e ps)

pub calls_call : (p : Place) (e : Expr) (ps : List Prop) → is_call (tree p (shape_of (node.Call e ps))) ≡ true
calls_call p e ps = ap (λ s. is_call (tree p s)) (shape_call e ps)

pub says_call : (p : Place) (e : Expr) (ps : List Prop) → plain_of (tree p (shape_of (node.Call e ps))) ≡ None
says_call p e ps = ap (λ s. plain_of (tree p s)) (shape_call e ps)

pub below_pipe : (e : Expr) (es : List Expr) → below (shape_of (node.Pipe e es)) ≡ max (height (tree_of e)) (in_trees (trees_of (map tree_of es)))
unfolding height
below_pipe e es = ap below (shape_pipe e es)

pub calls_pipe : (p : Place) (e : Expr) (es : List Expr) → is_call (tree p (shape_of (node.Pipe e es))) ≡ false
calls_pipe p e es = ap (λ s. is_call (tree p s)) (shape_pipe e es)

pub says_pipe : (p : Place) (e : Expr) (es : List Expr) → plain_of (tree p (shape_of (node.Pipe e es))) ≡ None
says_pipe p e es = ap (λ s. plain_of (tree p s)) (shape_pipe e es)

pub below_member : (e : Expr) (x : List ℕ) → below (shape_of (node.Member e x)) ≡ height (tree_of e)
unfolding height
below_member e x = ap below (shape_member e x)

pub calls_member : (p : Place) (e : Expr) (x : List ℕ) → is_call (tree p (shape_of (node.Member e x))) ≡ false
calls_member p e x = ap (λ s. is_call (tree p s)) (shape_member e x)

pub says_member : (p : Place) (e : Expr) (x : List ℕ) → plain_of (tree p (shape_of (node.Member e x))) ≡ None
says_member p e x = ap (λ s. plain_of (tree p s)) (shape_member e x)

pub below_index : (e i : Expr) → below (shape_of (node.Index e i)) ≡ max (height (tree_of e)) (height (tree_of i))
unfolding height
below_index e i = ap below (shape_index e i)

pub calls_index : (p : Place) (e i : Expr) → is_call (tree p (shape_of (node.Index e i))) ≡ false
calls_index p e i = ap (λ s. is_call (tree p s)) (shape_index e i)

pub says_index : (p : Place) (e i : Expr) → plain_of (tree p (shape_of (node.Index e i))) ≡ None
says_index p e i = ap (λ s. plain_of (tree p s)) (shape_index e i)

pub below_chain : (e : Expr) (ls : List Link) → below (shape_of (node.Chain e ls)) ≡ max (height (tree_of e)) (in_links (links_of (map link ls)))
unfolding height
below_chain e ls = ap below (shape_chain e ls)

pub calls_chain : (p : Place) (e : Expr) (ls : List Link) → is_call (tree p (shape_of (node.Chain e ls))) ≡ false
calls_chain p e ls = ap (λ s. is_call (tree p s)) (shape_chain e ls)

pub says_chain : (p : Place) (e : Expr) (ls : List Link) → plain_of (tree p (shape_of (node.Chain e ls))) ≡ None
says_chain p e ls = ap (λ s. plain_of (tree p s)) (shape_chain e ls)

pub below_prefix : (s : Prefix) (e : Expr) → below (shape_of (node.Prefix s e)) ≡ height (tree_of e)
unfolding height
below_prefix s e = ap below (shape_prefix s e)

pub calls_prefix : (p : Place) (s : Prefix) (e : Expr) → is_call (tree p (shape_of (node.Prefix s e))) ≡ false
calls_prefix p s e = ap (λ s. is_call (tree p s)) (shape_prefix s e)

pub says_prefix : (p : Place) (s : Prefix) (e : Expr) → plain_of (tree p (shape_of (node.Prefix s e))) ≡ None
says_prefix p s e = ap (λ s. plain_of (tree p s)) (shape_prefix s e)

pub below_if : (a b c : Expr) → below (shape_of (node.If a b c)) ≡ max (height (tree_of a)) (max (height (tree_of b)) (height (tree_of c)))
unfolding height
below_if a b c = ap below (shape_if a b c)

pub calls_if : (p : Place) (a b c : Expr) → is_call (tree p (shape_of (node.If a b c))) ≡ false
calls_if p a b c = ap (λ s. is_call (tree p s)) (shape_if a b c)

pub says_if : (p : Place) (a b c : Expr) → plain_of (tree p (shape_of (node.If a b c))) ≡ None
says_if p a b c = ap (λ s. plain_of (tree p s)) (shape_if a b c)

pub ruleset int_node = (below_int, calls_int, says_int, shape_int)

pub ruleset time_node = (below_time, calls_time, says_time, shape_time)

pub ruleset span_node = (below_span, calls_span, says_span, shape_span)

pub ruleset pattern_node = (below_pattern, calls_pattern, says_pattern, shape_pattern)

pub ruleset name_node = (below_name, calls_name, says_name, shape_name)

pub ruleset text_node = (below_text, calls_text, shape_text)

pub ruleset paren_node = (below_paren, calls_paren, says_paren, shape_paren)

pub ruleset array_node = (below_array, calls_array, says_array, shape_array)

pub ruleset rec_node = (below_rec, calls_rec, says_rec, shape_rec)

pub ruleset fun_node = (below_fun, calls_fun, says_fun, shape_fun)

pub ruleset call_node = (below_call, calls_call, says_call, shape_call)

pub ruleset pipe_node = (below_pipe, calls_pipe, says_pipe, shape_pipe)

pub ruleset member_node = (below_member, calls_member, says_member, shape_member)

pub ruleset index_node = (below_index, calls_index, says_index, shape_index)

pub ruleset chain_node = (below_chain, calls_chain, says_chain, shape_chain)

pub ruleset prefix_node = (below_prefix, calls_prefix, says_prefix, shape_prefix)

pub ruleset if_node = (below_if, calls_if, says_if, shape_if)
