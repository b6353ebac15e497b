-- What expressions and names are called as.
use Rattle.std.proofs.Common.{◌≡◌, ◌↔◌, inl, inr, refl, sym, ap, subst, ◌∙◌, ℕ, ◌+◌, ◌<◌, true, false, List, map, drop, take, length, get_or, Option, None, Some}
use Rattle.std.specs.Borrow.{Bor}
use mathlib.Core.Bool.{true≢false}
use Rattle.std.specs.Prelude.{codes, option_map}
use Rattle.fx_base.specs.Text.{same_text}
use Rattle.fx_types.specs.Ground.{Ground, listed}
use Rattle.fx_types.specs.Instance.{Solution}
use Rattle.fx_types.specs.Size.{IsType}
use Rattle.fx_types.specs.Term.{Label}
use Rattle.fx_schemes.specs.declared.form.Form.TheVariants as form
use Rattle.fx_schemes.specs.declared.list.Builtin.{Builtin}
use Rattle.fx_schemes.specs.declared.name.BuiltinId.{BuiltinId}
use Rattle.fx_schemes.specs.Names.{IsId, builtin_of, id_of}
use Rattle.fx_ast.specs.declared.expr.Expr.{Expr}
use Rattle.fx_ast.specs.declared.expr.Body.{Body}
use Rattle.fx_ast.specs.declared.expr.Node.{Node}
use Rattle.fx_ast.specs.declared.expr.Node.TheVariants as node
use Rattle.fx_ast.specs.declared.expr.Param.{Param}
use Rattle.fx_ast.proofs.ShapeLaws.{shape_name, shape_fun, shape_paren}
use Rattle.fx_ast.specs.Shape.{tree_of, shape_of, params_of, param, body}
use Rattle.fx_ast.specs.Tree.{Tree, tree, int, time, span, text, pattern, name, paren, array, rec, fun, call, pipe, member, index, chain, prefix, if_then}
use Rattle.fx_infer.specs.declared.callee.Callee.{Callee}
use Rattle.fx_infer.specs.declared.callee.Callee.TheVariants as called
use Rattle.fx_infer.specs.declared.scope.Bound.TheVariants as bound
use Rattle.fx_infer.specs.declared.scope.Name.{Name}
use Rattle.fx_infer.specs.Ask.{type_is, builtin_is, Scope, valued}
use Rattle.fx_infer.specs.Callees.{is_literal, IsNative, IsValue, IsCalledAs, IsCallee, IsCalleeName}
use Rattle.fx_infer.specs.Environment.{scope, of_package}
use Rattle.fx_infer.specs.Names.{entry_by, env_under, labels_among}
use Rattle.fx_infer.specs.Native.{native}
use Rattle.fx_infer.specs.Typing.{has, callee}
use Rattle.fx_infer.specs.Words.{IsInForce}
use Rattle.fx_infer.proofs.NativeLaws.{found_builtin}
use Rattle.fx_infer.proofs.WrittenLaws.{at_shape, other_callee}
use Rattle.fx_infer.proofs.ScopeLaws.{answers_of, bound_answers, free_answers}

-- values

pub valued_is : (T : Ground → Type 0) → IsValue (valued T)
valued_is T = record { lines = λ L. (λ k. (k.0, k.1, k.2, (k.3, k.4)), λ k. (k.0, k.1, k.2, k.3.0, k.3.1)); types = λ t k. k.0; others = λ b k. k }

pub value_answers : (e : Tree) (S : Scope) → is_literal e ≡ false → IsValue (has e S)
value_answers (tree place (int n)) S h = record { lines = λ L. (λ k. (k.0, k.1, k.2, (k.3, k.4)), λ k. (k.0, k.1, k.2, k.3.0, k.3.1)); types = λ t k. k.0; others = λ b k. k }
value_answers (tree place (time n)) S h = record { lines = λ L. (λ k. (k.0, k.1, k.2, (k.3, k.4)), λ k. (k.0, k.1, k.2, k.3.0, k.3.1)); types = λ t k. k.0; others = λ b k. k }
value_answers (tree place (span d)) S h = record { lines = λ L. (λ k. (k.0, k.1, k.2, (k.3, k.4)), λ k. (k.0, k.1, k.2, k.3.0, k.3.1)); types = λ t k. k.0; others = λ b k. k }
value_answers (tree place (text ps)) S h = record { lines = λ L. (λ k. (k.0, k.1, k.2, (k.3, k.4)), λ k. (k.0, k.1, k.2, k.3.0, k.3.1)); types = λ t k. k.0; others = λ b k. k }
value_answers (tree place (pattern s)) S h = record { lines = λ L. (λ k. (k.0, k.1, k.2, (k.3, k.4)), λ k. (k.0, k.1, k.2, k.3.0, k.3.1)); types = λ t k. k.0; others = λ b k. k }
value_answers (tree place (name x)) S h = record { lines = λ L. (λ k. (k.0, k.1, k.2, (k.3, k.4)), λ k. (k.0, k.1, k.2, k.3.0, k.3.1)); types = λ t k. k.0; others = λ b k. k }
value_answers (tree place (paren e)) S h = value_answers e S h
value_answers (tree place (array es)) S h = record { lines = λ L. (λ k. (k.0, k.1, k.2, (k.3, k.4)), λ k. (k.0, k.1, k.2, k.3.0, k.3.1)); types = λ t k. k.0; others = λ b k. k }
value_answers (tree place (rec None ps)) S h = record { lines = λ L. (λ k. (k.0, k.1, k.2, (k.3, k.4)), λ k. (k.0, k.1, k.2, k.3.0, k.3.1)); types = λ t k. k.0; others = λ b k. k }
value_answers (tree place (rec (Some x) ps)) S h = record { lines = λ L. (λ k. (k.0, k.1, k.2, (k.3, k.4)), λ k. (k.0, k.1, k.2, k.3.0, k.3.1)); types = λ t k. k.0; others = λ b k. k }
value_answers (tree place (fun ps lets e)) S h = absurd (true≢false h)
value_answers (tree place (call e ps)) S h = record { lines = λ L. (λ k. (k.0, k.1, k.2, (k.3, k.4)), λ k. (k.0, k.1, k.2, k.3.0, k.3.1)); types = λ t k. k.0; others = λ b k. k }
value_answers (tree place (pipe e es)) S h = record { lines = λ L. (λ k. (k.0, k.1, k.2, (k.3, k.4)), λ k. (k.0, k.1, k.2, k.3.0, k.3.1)); types = λ t k. k.0; others = λ b k. k }
value_answers (tree place (member e x)) S h = record { lines = λ L. (λ k. (k.0, k.1, k.2, (k.3, k.4)), λ k. (k.0, k.1, k.2, k.3.0, k.3.1)); types = λ t k. k.0; others = λ b k. k }
value_answers (tree place (index e at)) S h = record { lines = λ L. (λ k. (k.0, k.1, k.2, (k.3, k.4)), λ k. (k.0, k.1, k.2, k.3.0, k.3.1)); types = λ t k. k.0; others = λ b k. k }
value_answers (tree place (chain e ls)) S h = record { lines = λ L. (λ k. (k.0, k.1, k.2, (k.3, k.4)), λ k. (k.0, k.1, k.2, k.3.0, k.3.1)); types = λ t k. k.0; others = λ b k. k }
value_answers (tree place (prefix sign e)) S h = record { lines = λ L. (λ k. (k.0, k.1, k.2, (k.3, k.4)), λ k. (k.0, k.1, k.2, k.3.0, k.3.1)); types = λ t k. k.0; others = λ b k. k }
value_answers (tree place (if_then a b c)) S h = record { lines = λ L. (λ k. (k.0, k.1, k.2, (k.3, k.4)), λ k. (k.0, k.1, k.2, k.3.0, k.3.1)); types = λ t k. k.0; others = λ b k. k }

-- no expression is a built-in itself
pub no_builtin : (e : Tree) (S : Scope) (b : Builtin) → has e S (builtin_is b) → ⊥
no_builtin (tree place (paren e)) S b h = no_builtin e S b h
no_builtin (tree place (rec None ps)) S b h = h
no_builtin (tree place (rec (Some x) ps)) S b h = h
no_builtin (tree place s) S b h = h

-- names

of_package_is : (path : Label) → IsValue (of_package path)
of_package_is path = record { lines = λ L. (λ h. absurd h, λ h. absurd h.3); types = λ t h. absurd h; others = λ b h. h }

nothing_is : IsValue (native None)
nothing_is = record { lines = λ L. (λ h. absurd h, λ h. absurd h.3); types = λ t h. absurd h; others = λ b h. h }

native_is : (b : Builtin) → IsNative b (native (Some b))
native_is b = record { itself = refl; only = λ c h. h; lines = λ L h. h }

module _ (ns : List Name) (x : Label) (i : ℕ) (n : Name) (lt : i < length ns) (at : n ≡ get_or ns i n) (same : same_text x n.label.now ≡ true) (off : listed x (labels_among (drop (i + 1) ns)) ≡ false) where
  pub param_called : (k : ℕ) → n.bound ≡ bound.Param k → IsCalleeName ns x called.Value
  param_called k is s =
      subst IsValue (sym (bound_answers s ns x i n lt at same off ∙ ap (λ o. answers_of (entry_by s n.label.now o) (env_under s (take i ns))) is)) (valued_is (λ t. t ≡ s.type_of k))

  pub package_called : (p : Bor (List ℕ)) → n.bound ≡ bound.Imported p → IsCalleeName ns x called.Value
  package_called p is s =
      subst IsValue (sym (bound_answers s ns x i n lt at same off ∙ ap (λ o. answers_of (entry_by s n.label.now o) (env_under s (take i ns))) is)) (of_package_is _)

  pub value_called : (e : Bor Expr) → n.bound ≡ bound.Assigned e → is_literal (tree_of e.now) ≡ false → IsCalleeName ns x called.Value
  value_called e is plain s =
      subst IsValue (sym (bound_answers s ns x i n lt at same off ∙ ap (λ o. answers_of (entry_by s n.label.now o) (env_under s (take i ns))) is))
      (value_answers (tree_of e.now) (scope (env_under s (take i ns))) plain)

  pub literal_called : (e : Bor Expr) → n.bound ≡ bound.Assigned e → IsCalleeName ns x called.Literal
  literal_called e is s b h =
      no_builtin (tree_of e.now) (scope (env_under s (take i ns))) b
      (subst (λ A. A (builtin_is b)) (bound_answers s ns x i n lt at same off ∙ ap (λ o. answers_of (entry_by s n.label.now o) (env_under s (take i ns))) is) h)

module _ (ns : List Name) (x : Label) (off : listed x (labels_among ns) ≡ false) (p : Label) (empty : p ≡ codes "") where
  pub native_called : (id : BuiltinId) → option_map id_of (builtin_of p x) ≡ Some id → IsCalleeName ns x (called.Native id)
  native_called id is =
      let found : (b : Builtin) × (builtin_of p x ≡ Some b) × IsId id b = found_builtin (builtin_of p x) id is in
      (found.0, found.2, λ s. subst (IsNative found.0) (sym (free_answers s ns x off ∙ ap native (ap (λ q. builtin_of q x) (sym empty) ∙ found.1))) (native_is found.0))

  pub nothing_called : option_map id_of (builtin_of p x) ≡ None → IsCalleeName ns x called.Value
  nothing_called is s =
      subst IsValue (sym (free_answers s ns x off ∙ ap native (ap (λ q. builtin_of q x) (sym empty) ∙ no_id (builtin_of p x) is))) nothing_is
    where
      no_id : (o : Option Builtin) → ◌≡◌ {A = Option BuiltinId} (option_map id_of o) None → o ≡ None
      no_id None h = refl
      no_id (Some b) h = absurd cc

-- the types of what is called are those of the expression

pub callee_types : (e : Tree) (S : Scope) (t : Ground) → ((u : Ground) → callee e S (type_is u) → IsType u) → callee e S (type_is t) ↔ has e S (type_is t)
callee_types (tree place (name x)) S t types = (λ h. (types t h, h), λ h. h.1)
callee_types (tree place (member e x)) S t types = (λ h. from h, λ h. inr h)
  where
    from : callee (tree place (member e x)) S (type_is t) → has (tree place (member e x)) S (type_is t)
    from (inl k) = (types t (inl k), inr k)
    from (inr k) = k
callee_types (tree place (int n)) S t types = (λ h. h, λ h. h)
callee_types (tree place (time n)) S t types = (λ h. h, λ h. h)
callee_types (tree place (span d)) S t types = (λ h. h, λ h. h)
callee_types (tree place (text ps)) S t types = (λ h. h, λ h. h)
callee_types (tree place (pattern s)) S t types = (λ h. h, λ h. h)
callee_types (tree place (paren e)) S t types = (λ h. h, λ h. h)
callee_types (tree place (array es)) S t types = (λ h. h, λ h. h)
callee_types (tree place (rec base ps)) S t types = (λ h. h, λ h. h)
callee_types (tree place (fun ps lets e)) S t types = (λ h. h, λ h. h)
callee_types (tree place (call e ps)) S t types = (λ h. h, λ h. h)
callee_types (tree place (pipe e es)) S t types = (λ h. h, λ h. h)
callee_types (tree place (index e at)) S t types = (λ h. h, λ h. h)
callee_types (tree place (chain e ls)) S t types = (λ h. h, λ h. h)
callee_types (tree place (prefix sign e)) S t types = (λ h. h, λ h. h)
callee_types (tree place (if_then a b c)) S t types = (λ h. h, λ h. h)

-- expressions by their nodes

pub name_callee : (ns : List Name) (e : Expr) (n : Node) (x : Label) (c : Callee) → n ≡ e.node → n ≡ node.Name x → IsCalleeName ns x c → IsCallee ns e c
name_callee ns e n x c is written h =
    let path : tree_of e ≡ tree e.place (name x) = at_shape e n (name x) is (ap shape_of written ∙ shape_name x) in
    subst (λ A. IsCalledAs A c) (λ i s. callee (sym path i) (scope (env_under s ns))) h

module _ (ns : List Name) (e : Expr) (n : Node) (is : n ≡ e.node) (no_name : (y : Label) → ¬ (n ≡ node.Name y)) (no_member : (d : Expr) (x : Label) → ¬ (n ≡ node.Member d x)) where
  pub literal_callee : IsCallee ns e called.Literal
  literal_callee s b h = no_builtin (tree_of e) (scope (env_under s ns)) b (subst (λ P. P) (other_callee e n (scope (env_under s ns)) (builtin_is b) is no_name no_member) h)

  pub value_callee : is_literal (tree_of e) ≡ false → IsCallee ns e called.Value
  value_callee plain s = subst IsValue (λ i q. sym (other_callee e n (scope (env_under s ns)) q is no_name no_member) i) (value_answers (tree_of e) (scope (env_under s ns)) plain)

pub fun_literal : (e : Expr) (n : Node) (ps : List Param) (b : Body) → n ≡ e.node → n ≡ node.Fun ps b → is_literal (tree_of e) ≡ true
fun_literal e n ps b is written = ap is_literal (at_shape e n (fun (params_of (map param ps)) (body b).lets (body b).result) is (ap shape_of written ∙ shape_fun ps b))

pub paren_literal : (e : Expr) (n : Node) (d : Expr) → n ≡ e.node → n ≡ node.Paren d → is_literal (tree_of e) ≡ is_literal (tree_of d)
paren_literal e n d is written = ap is_literal (at_shape e n (paren (tree_of d)) is (ap shape_of written ∙ shape_paren d))

-- names that say words

pub name_in_force : (ns : List Name) (e : Expr) (n : Node) (x : Label) → n ≡ e.node → n ≡ node.Name x → (s : Solution) → ((b : Builtin) × scope (env_under s ns) x (builtin_is b)) ≡ IsInForce form.Name (tree_of e) (scope (env_under s ns))
name_in_force ns e n x is written s = sym (ap (λ t. IsInForce form.Name t (scope (env_under s ns))) (at_shape e n (name x) is (ap shape_of written ∙ shape_name x)))

pub in_force_native : (ns : List Name) (x : Label) (c : Callee) (id : BuiltinId) → c ≡ called.Native id → IsCalleeName ns x c → (s : Solution) → (b : Builtin) × scope (env_under s ns) x (builtin_is b)
in_force_native ns x c id is h s = (let k = subst (IsCalleeName ns x) is h in (k.0, (k.2 s).itself))

pub no_force_literal : (ns : List Name) (x : Label) (c : Callee) → c ≡ called.Literal → IsCalleeName ns x c → (s : Solution) → ((b : Builtin) × scope (env_under s ns) x (builtin_is b)) → ⊥
no_force_literal ns x c is h s k = subst (IsCalleeName ns x) is h s k.0 k.1

pub no_force_value : (ns : List Name) (x : Label) (c : Callee) → c ≡ called.Value → IsCalleeName ns x c → (s : Solution) → ((b : Builtin) × scope (env_under s ns) x (builtin_is b)) → ⊥
no_force_value ns x c is h s k = (subst (IsCalleeName ns x) is h s).others k.0 k.1
