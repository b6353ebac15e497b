-- Inference of members: fields of records, and built-ins of packages.
use Rattle.std.proofs.Common.{◌≡◌, ◌↔◌, ◌⊎◌, inl, inr, refl, sym, ap, subst, ◌∙◌, ℕ, ◌+◌, ◌<◌, Bool, true, false, List, [], ◌∷◌, take, drop, length, get_or, Option, None, Some}
use Rattle.std.specs.Borrow.{Bor}
use Rattle.std.specs.Prelude.{codes}
use Rattle.fx_base.specs.Text.{same_text}
use Rattle.fx_base.specs.declared.place.Place.{Place}
use Rattle.fx_ast.specs.Bare.{bare_shape}
use Rattle.fx_ast.specs.Tree.{Tree, tree, Shape, name, paren, rec, member}
use Rattle.fx_ast.specs.Shape.{tree_of, shape_of}
use Rattle.fx_ast.specs.declared.expr.Expr.{Expr}
use Rattle.fx_ast.specs.declared.expr.Node.{Node}
use Rattle.fx_ast.specs.declared.expr.Node.TheVariants as node
use Rattle.fx_ast.proofs.BareLaws.{Opens, opens, bare_name}
use Rattle.fx_ast.proofs.ShapeLaws.{tree_is, shape_name}
use Rattle.fx_types.specs.Ground.{Ground, GroundRow, g_rec, g_is, listed}
use Rattle.fx_types.specs.Instance.{Solution}
use Rattle.fx_types.specs.Size.{IsType}
use Rattle.fx_types.specs.Term.{Label}
use Rattle.fx_types.proofs.PartLaws.{IsTypeField, record_field}
use Rattle.fx_schemes.specs.declared.list.Builtin.{Builtin}
use Rattle.fx_schemes.specs.Names.{builtin_of}
use Rattle.fx_infer.specs.declared.scope.Bound as bounds
use Rattle.fx_infer.specs.declared.scope.Bound.TheVariants as bound
use Rattle.fx_infer.specs.declared.scope.Name.{Name}
use Rattle.fx_infer.specs.Ask.{Ask, type_is, package_is, Scope, either}
use Rattle.fx_infer.specs.Environment.{Entry, param, assigned, imported, Env, scope}
use Rattle.fx_infer.specs.Members.{IsPackage}
use Rattle.fx_infer.specs.Names.{entry_by, env_under, labels_among, TypeOf, ShapeOf}
use Rattle.fx_infer.specs.Native.{native, natives, in_package}
use Rattle.fx_infer.specs.Rules.{HasField}
use Rattle.fx_infer.specs.Typing.{has, has_shape}
use Rattle.fx_infer.proofs.ScopeLaws.{answers_of, bound_answers, free_answers}
use Rattle.fx_infer.proofs.TypingLaws.{typed_type}

-- what is no package

mutual
  tree_apart : (e : Tree) (S : Scope) (path : Label) → has e S (package_is path) → ⊥
  tree_apart (tree place s) S path h = shape_apart s S path h

  shape_apart : (s : Shape) (S : Scope) (path : Label) → has_shape s S (package_is path) → ⊥
  shape_apart (paren e) S path h = tree_apart e S path h
  shape_apart (rec None ps) S path h = h
  shape_apart (rec (Some x) ps) S path h = h
  shape_apart _ S path h = h

native_apart : (o : Option Builtin) (path : Label) → native o (package_is path) → ⊥
native_apart None path h = h
native_apart (Some b) path h = h

entry_apart : (e : Entry) (env : Env) (path : Label) (t : Ground) → answers_of e env (package_is path) → answers_of e env (type_is t) → ⊥
entry_apart (param x u) env path t h k = h
entry_apart (assigned x e) env path t h k = tree_apart e (scope env) path h
entry_apart (imported x p) env path t h k = k

either_apart : (c : Bool) (A B C D : Type 0) → (A → C → ⊥) → (B → D → ⊥) → either c A B → either c C D → ⊥
either_apart true A B C D f g h k = f h k
either_apart false A B C D f g h k = g h k

-- a name of a package has no type
named_apart : (env : Env) (x path : Label) (t : Ground) → scope env x (package_is path) → scope env x (type_is t) → ⊥
named_apart [] x path t h k = native_apart (builtin_of (codes "") x) path h
named_apart (param y u ∷ env) x path t h k =
    either_apart (same_text x y) _ _ _ _ (entry_apart (param y u) env path t) (named_apart env x path t) h k
named_apart (assigned y e ∷ env) x path t h k =
    either_apart (same_text x y) _ _ _ _ (entry_apart (assigned y e) env path t) (named_apart env x path t) h k
named_apart (imported y p ∷ env) x path t h k =
    either_apart (same_text x y) _ _ _ _ (entry_apart (imported y p) env path t) (named_apart env x path t) h k

package_apart : (e : Tree) (env : Env) (path : Label) (t : Ground) → IsPackage e (scope env) path → has e (scope env) (type_is t) → ⊥
package_apart (tree place (name x)) env path t h k = named_apart env x path t h k.1
package_apart (tree place _) env path t h k = absurd h

-- the expression is a name

named_in : (s : Shape) (place : Place) (S : Scope) (path : Label) → IsPackage (tree place s) S path → (x : Label) × (s ≡ name x)
named_in (name x) place S path h = (x, refl)
named_in _ place S path h = absurd h

no_name : (n : Node) (place : Place) (S : Scope) (path : Label) → ((x : Label) → n ≡ node.Name x → ⊥) → IsPackage (tree place (shape_of n)) S path → ⊥
no_name n place S path none h =
    (let k : (x : Label) × (shape_of n ≡ name x) = named_in (shape_of n) place S path h in
    let o : Opens n (name k.0) = subst (Opens n) (ap bare_shape (k.1 ∙ sym (shape_name k.0)) ∙ bare_name k.0) (opens n) in
    none o.0 o.1)

none_some : {A : Type 0} (a : A) → ◌≡◌ {A = Option A} None (Some a) → ⊥
none_some a e = cc

some_is : {A : Type 0} (a b : A) → ◌≡◌ {A = Option A} (Some a) (Some b) → a ≡ b
some_is a b e = cc

-- what a search for a package found
abbrev pub Told : List Name → Expr → Option Label → Type 0
Told ns e o = (s : Solution) (path : Label) → IsPackage (tree_of e) (scope (env_under s ns)) path ↔ (o ≡ Some path)

module _ (ns : List Name) (e : Expr) where
  told_none : ((s : Solution) (path : Label) → IsPackage (tree_of e) (scope (env_under s ns)) path → ⊥) → Told ns e None
  told_none none s path = (λ h. absurd (none s path h), λ h. absurd (none_some path h))

  pub told_nameless : (n : Node) → n ≡ e.node → ((x : Label) → n ≡ node.Name x → ⊥) → Told ns e None
  told_nameless n is none =
      told_none (λ s path h. no_name n e.place (scope (env_under s ns)) path none (subst (λ t. IsPackage t (scope (env_under s ns)) path) (tree_is e ∙ ap (λ m. tree e.place (shape_of m)) (sym is)) h))

  module _ (n : Node) (x : Label) (at : n ≡ e.node) (is : n ≡ node.Name x) where
    named : (S : Scope) (path : Label) → IsPackage (tree_of e) S path ≡ S x (package_is path)
    named S path = ap (λ t. IsPackage t S path) (tree_is e ∙ ap (λ m. tree e.place (shape_of m)) (sym at ∙ is) ∙ ap (tree e.place) (shape_name x))

    answered : (s : Solution) (path : Label) (A : Ask → Type 0) → scope (env_under s ns) x ≡ A → IsPackage (tree_of e) (scope (env_under s ns)) path → A (package_is path)
    answered s path A same h = subst (λ B. B (package_is path)) same (subst (λ B. B) (named (scope (env_under s ns)) path) h)

    pub told_free : listed x (labels_among ns) ≡ false → Told ns e None
    told_free off = told_none (λ s path h. native_apart (builtin_of (codes "") x) path (answered s path (natives x) (free_answers s ns x off) h))

    module _ (i : ℕ) (m : Name) (lt : i < length ns) (there : m ≡ get_or ns i m) (same : same_text x m.label.now ≡ true) (off : listed x (labels_among (drop (i + 1) ns)) ≡ false) where
      answers : (s : Solution) (b : bounds.Bound) → m.bound ≡ b → scope (env_under s ns) x ≡ answers_of (entry_by s m.label.now b) (env_under s (take i ns))
      answers s b is = bound_answers s ns x i m lt there same off ∙ ap (λ o. answers_of (entry_by s m.label.now o) (env_under s (take i ns))) is

      pub told_bound : ((p : Bor (List ℕ)) → m.bound ≡ bound.Imported p → ⊥) → Told ns e None
      told_bound none = told_none (λ s path h. other s path m.bound refl h)
        where
          other : (s : Solution) (path : Label) (b : bounds.Bound) → m.bound ≡ b → IsPackage (tree_of e) (scope (env_under s ns)) path → ⊥
          other s path (bound.Param k) is h = answered s path _ (answers s (bound.Param k) is) h
          other s path (bound.Assigned v) is h = tree_apart (tree_of v.now) _ path (answered s path _ (answers s (bound.Assigned v) is) h)
          other s path (bound.Imported p) is h = none p is

      pub told_package : (p : Bor (List ℕ)) → m.bound ≡ bound.Imported p → Told ns e (Some p.now)
      told_package p is s path = (
        λ h. ap Some (answered s path _ (answers s (bound.Imported p) is) h),
        λ h. subst (λ B. B) (sym (named (scope (env_under s ns)) path)) (subst (λ B. B (package_is path)) (sym (answers s (bound.Imported p) is)) (some_is p.now path h)),
      )

-- a member

out_package : (e : Tree) (x : Label) (S : Scope) (q : Ask) → in_package e x S q → (path : Label) × IsPackage e S path × native (builtin_of path x) q
out_package (tree place (name y)) x S q h = h
out_package (tree place _) x S q h = absurd h

into_package : (e : Tree) (x path : Label) (S : Scope) (q : Ask) → IsPackage e S path → native (builtin_of path x) q → in_package e x S q
into_package (tree place (name y)) x path S q h k = (path, h, k)
into_package (tree place _) x path S q h k = absurd h

module _ (ns : List Name) (e : Expr) (x : Label) where
  abbrev Parts : Solution → Ground → Type 0
  Parts s t = ((r : GroundRow) × TypeOf ns e s (g_rec r) × (r x ≡ g_is t)) ⊎ in_package (tree_of e) x (scope (env_under s ns)) (type_is t)

  pub native_member : (path : Label) → Told ns e (Some path) → (s : Solution) (t : Ground) → (IsType t × native (builtin_of path x) (type_is t)) ↔ ShapeOf ns (member (tree_of e) x) s t
  native_member path told s t = (λ h. (h.0, inr (into_package (tree_of e) x path (scope (env_under s ns)) (type_is t) ((told s path).1 refl) h.1)), λ h. (h.0, back h.1))
    where
      back : Parts s t → native (builtin_of path x) (type_is t)
      back (inl k) = absurd (package_apart (tree_of e) (env_under s ns) path (g_rec k.0) ((told s path).1 refl) k.1)
      back (inr k) =
          let o : (p : Label) × IsPackage (tree_of e) (scope (env_under s ns)) p × native (builtin_of p x) (type_is t) = out_package (tree_of e) x (scope (env_under s ns)) (type_is t) k in
          subst (λ p. native (builtin_of p x) (type_is t)) (sym (some_is path o.0 ((told s o.0).0 o.1))) o.2

  pub field_member : Told ns e None → (s : Solution) (t : Ground) → ShapeOf ns (member (tree_of e) x) s t ↔ ((u : Ground) × TypeOf ns e s u × HasField x u t)
  field_member told s t = (λ h. there h.1, λ h. (typed h, inl (h.2.0, subst (λ u. has (tree_of e) (scope (env_under s ns)) (type_is u)) h.2.1 h.1, h.2.2)))
    where
      there : Parts s t → (u : Ground) × TypeOf ns e s u × HasField x u t
      there (inl k) = (g_rec k.0, k.1, (k.0, refl, k.2))
      there (inr k) =
          let o : (p : Label) × IsPackage (tree_of e) (scope (env_under s ns)) p × native (builtin_of p x) (type_is t) = out_package (tree_of e) x (scope (env_under s ns)) (type_is t) k in
          absurd (none_some o.0 ((told s o.0).0 o.1))

      typed : (u : Ground) × TypeOf ns e s u × HasField x u t → IsType t
      typed h = subst IsTypeField h.2.2 (record_field h.2.0 (subst IsType h.2.1 (typed_type (tree_of e) (scope (env_under s ns)) h.0 h.1)) x)
