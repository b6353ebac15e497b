-- What members are called as.
use Rattle.std.proofs.Common.{◌≡◌, inl, inr, refl, sym, ap, subst, ◌∙◌, List, Option, None, Some, Result, IfOk}
use Rattle.std.specs.Prelude.{option_map}
use Rattle.fx_base.specs.declared.place.Place.{Place}
use Rattle.fx_ast.specs.Shape.{tree_of, shape_of}
use Rattle.fx_ast.specs.Tree.{Tree, tree, name, member}
use Rattle.fx_ast.specs.declared.expr.Expr.{Expr}
use Rattle.fx_ast.specs.declared.expr.Node.{Node}
use Rattle.fx_ast.specs.declared.expr.Node.TheVariants as node
use Rattle.fx_ast.proofs.ShapeLaws.{shape_member}
use Rattle.fx_types.specs.Ground.{Ground}
use Rattle.fx_types.specs.Size.{IsType}
use Rattle.fx_types.specs.Instance.{Solution}
use Rattle.fx_types.specs.Term.{Label}
use Rattle.fx_schemes.specs.declared.list.Builtin.{Builtin}
use Rattle.fx_schemes.specs.declared.name.BuiltinId.{BuiltinId}
use Rattle.fx_schemes.specs.Line.{Line, value}
use Rattle.fx_schemes.specs.Names.{builtin_of, id_of}
use Rattle.fx_infer.specs.declared.callee.Callee.{Callee}
use Rattle.fx_infer.specs.declared.scope.Name.{Name}
use Rattle.fx_infer.specs.Ask.{Ask, type_is, line_is, builtin_is, package_is, Answers, Scope, IsFunction}
use Rattle.fx_infer.specs.Callees.{IsCalledAs, IsCallee, IsValue}
use Rattle.fx_infer.specs.Environment.{scope}
use Rattle.fx_infer.specs.Members.{IsPackage}
use Rattle.fx_infer.specs.Names.{env_under}
use Rattle.fx_infer.specs.Native.{native, in_package}
use Rattle.fx_infer.specs.Typing.{callee}
use Rattle.fx_infer.proofs.MemberArms.{Told}
use Rattle.fx_infer.proofs.WrittenLaws.{at_shape}

-- behind what is no package, or has no built-in there, stands a value

module _ (e : Tree) (x : Label) (place : Place) (S : Scope) (none : (q : Ask) → in_package e x S q → ⊥) where
  abbrev A : Answers
  A = callee (tree place (member e x)) S

  by_value : (L : Line) → A (line_is L) → (t : Ground) × (L ≡ value t) × IsFunction t × A (type_is t)
  by_value L (inl h) = absurd (none (line_is L) h)
  by_value L (inr k) = (k.0, k.1, k.2, inr (k.3, k.4))

  as_line : (L : Line) (t : Ground) → L ≡ value t → IsFunction t → A (type_is t) → A (line_is L)
  as_line L t is function (inl h) = absurd (none (type_is t) h)
  as_line L t is function (inr k) = inr (t, is, function, k.0, k.1)

  has_types : (t : Ground) → A (type_is t) → IsType t
  has_types t (inl h) = absurd (none (type_is t) h)
  has_types t (inr k) = k.0

  no_other : (b : Builtin) → A (builtin_is b) → ⊥
  no_other b (inl h) = none (builtin_is b) h
  no_other b (inr k) = k

  member_value : IsValue A
  member_value = record { lines = λ L. (by_value L, λ k. as_line L k.0 k.1 k.2 k.3); types = has_types; others = no_other }

-- what a search for a package, and for its built-in, tells

nothing : (q : Ask) → native None q → ⊥
nothing (type_is t) h = h
nothing (line_is L) h = h
nothing (builtin_is b) h = h
nothing (package_is path) h = h

behind : (e : Tree) (x : Label) (S : Scope) (q : Ask) → in_package e x S q → (path : Label) × IsPackage e S path × native (builtin_of path x) q
behind (tree place (name y)) x S q h = h
behind (tree place _) x S q h = absurd h

none_told : (path : Label) → ◌≡◌ {A = Option Label} None (Some path) → ⊥
none_told path e = cc

same_told : (a b : Label) → ◌≡◌ {A = Option Label} (Some a) (Some b) → a ≡ b
same_told a b e = cc

no_builtin : (o : Option Builtin) → ◌≡◌ {A = Option BuiltinId} (option_map id_of o) None → o ≡ None
no_builtin None h = refl
no_builtin (Some b) h = absurd cc

module _ (ns : List Name) (e : Expr) (x : Label) (place : Place) where
  pub no_package_value : Told ns e None → (s : Solution) → IsValue (callee (tree place (member (tree_of e) x)) (scope (env_under s ns)))
  no_package_value told s = member_value (tree_of e) x place (scope (env_under s ns)) (λ q h.
      (let o : (path : Label) × IsPackage (tree_of e) (scope (env_under s ns)) path × native (builtin_of path x) q = behind (tree_of e) x (scope (env_under s ns)) q h in
      none_told o.0 ((told s o.0).0 o.1)))

  pub no_builtin_value : (path : Label) → Told ns e (Some path) → ◌≡◌ {A = Option BuiltinId} (option_map id_of (builtin_of path x)) None → (s : Solution) → IsValue (callee (tree place (member (tree_of e) x)) (scope (env_under s ns)))
  no_builtin_value path told none s = member_value (tree_of e) x place (scope (env_under s ns)) (λ q h.
      (let o : (p : Label) × IsPackage (tree_of e) (scope (env_under s ns)) p × native (builtin_of p x) q = behind (tree_of e) x (scope (env_under s ns)) q h in
      let same : path ≡ o.0 = same_told path o.0 ((told s o.0).0 o.1) in
      nothing q (subst (λ b. native b q) (ap (λ p. builtin_of p x) (sym same) ∙ no_builtin (builtin_of path x) none) o.2)))

-- a member by its node
pub member_callee : {E : Type 0} (ns : List Name) (e : Expr) (n : Node) (d : Expr) (x : Label) → n ≡ e.node → n ≡ node.Member d x → (r : Result Callee E)
    → IfOk r (IsCalledAs (λ s. callee (tree e.place (member (tree_of d) x)) (scope (env_under s ns)))) → IfOk r (IsCallee ns e)
member_callee ns e n d x at is r h = subst (λ t. IfOk r (IsCalledAs (λ s. callee t (scope (env_under s ns))))) (sym (at_shape e n (member (tree_of d) x) at (ap shape_of is ∙ shape_member d x))) h
