-- Inference of an expression from that of its parts.
use Rattle.std.proofs.Common.{◌≡◌, ◌↔◌, refl, sym, ap, subst, ◌∙◌, ℕ, ℤ, List, FitsSigned, arith}
use Rattle.std.specs.Int.{w64}
use Rattle.fx_ast.specs.Tree.{tree, Shape, prefix, index}
use Rattle.fx_ast.specs.Shape.{tree_of, shape_of}
use Rattle.fx_ast.specs.declared.expr.Expr.{Expr}
use Rattle.fx_ast.specs.declared.expr.Node.{Node}
use Rattle.fx_ast.specs.declared.expr.Prefix.{Prefix}
use Rattle.fx_ast.specs.declared.expr.Prefix.TheVariants as sign
use Rattle.fx_ast.proofs.ShapeLaws.{tree_is}
use Rattle.fx_types.specs.Agree.{Agree}
use Rattle.fx_types.specs.Ground.{Ground, g_int, g_span, g_array}
use Rattle.fx_types.specs.Instance.{Solution, ground}
use Rattle.fx_types.specs.Term.{Term}
use Rattle.fx_types.specs.Size.{IsType}
use Rattle.fx_unify.specs.declared.bindings.Bindings.{Bindings}
use Rattle.fx_unify.specs.Solutions.{next_of}
use Rattle.fx_infer.specs.declared.scope.Name.{Name}
use Rattle.fx_infer.specs.Ask.{type_is}
use Rattle.fx_infer.specs.Environment.{scope}
use Rattle.fx_infer.specs.Infers.{Infers, HasNone}
use Rattle.fx_infer.specs.Names.{env_under, NamesBelow, TypeOf, ShapeOf}
use Rattle.fx_infer.specs.Operators.{Prefixed}
use Rattle.fx_infer.specs.Rules.{HasElement}
use Rattle.fx_infer.specs.Typing.{has}
use Rattle.fx_types.proofs.AgreeLaws.{agree_less}
use Rattle.fx_infer.proofs.InfersLaws.{Reads, both, none_second, same, seen_as}
use Rattle.fx_infer.proofs.TypingLaws.{typed_type}

-- an expression by its node
pub at_node : (ns : List Name) (e : Expr) (n : Node) (sh : Shape) → n ≡ e.node → shape_of n ≡ sh → ShapeOf ns sh ≡ TypeOf ns e
at_node ns e n sh is form =
    let path : tree_of e ≡ tree e.place sh = tree_is e ∙ ap (tree e.place) (ap shape_of (sym is) ∙ form) in
    λ i s t. has (sym path i) (scope (env_under s ns)) (type_is t)

-- what the scope gives, and the expressions in it, say nothing of numbers from some number on
pub type_reads : (n : ℕ) (ns : List Name) (e : Expr) → NamesBelow n ns → Reads n (TypeOf ns e)
type_reads n ns e below = λ s q agree t h. subst (λ env. has (tree_of e) (scope env) (type_is t)) (below s q agree) h

-- one type, whatever the bindings are
pub plain_found : (P : Type 0) (g : Ground) (b : Bindings) (u : Term) → IsType g → P → ((s : Solution) → ground s u ≡ g) → Infers (λ s t. IsType t × ((t ≡ g) × P)) b b (λ s. ground s u)
plain_found P g b u type p is = subst (Infers (λ s t. IsType t × ((t ≡ g) × P)) b b) (λ i s. sym (is s) i) (same (λ s t. IsType t × ((t ≡ g) × P)) b g (λ s. (type, (refl, p))) (λ s t h. sym h.1.0))

pub span_found : (m n : ℤ) (b : Bindings) (u : Term) → FitsSigned w64 m → FitsSigned w64 n → ((s : Solution) → ground s u ≡ g_span) → Infers (λ s t. IsType t × ((t ≡ g_span) × FitsSigned w64 m × FitsSigned w64 n)) b b (λ s. ground s u)
span_found m n b u p q is =
    subst (Infers (λ s t. IsType t × ((t ≡ g_span) × FitsSigned w64 m × FitsSigned w64 n)) b b) (λ i s. sym (is s) i)
    (same (λ s t. IsType t × ((t ≡ g_span) × FitsSigned w64 m × FitsSigned w64 n)) b g_span (λ s. ((tt, omega arith), (refl, p, q))) (λ s t h. sym h.1.0))

pub only_found : (g : Ground) (b : Bindings) (u : Term) → IsType g → ((s : Solution) → ground s u ≡ g) → Infers (λ s t. IsType t × (t ≡ g)) b b (λ s. ground s u)
only_found g b u type is = subst (Infers (λ s t. IsType t × (t ≡ g)) b b) (λ i s. sym (is s) i) (same (λ s t. IsType t × (t ≡ g)) b g (λ s. (type, refl)) (λ s t h. sym h.1))

-- one part, and a rule on its type
module _ {P R : Type 0} (T : Solution → P → Type 0) (U : P → R → Type 0) (C : Solution → R → Type 0) (old : Bindings) (is : (s : Solution) (t : R) → C s t ↔ ((u : P) × T s u × U u t)) where
  pub one_part : (mid new : Bindings) (f : Solution → P) (g : Solution → R) → Infers T old mid f → Infers (λ s t. U (f s) t) mid new g → Infers C old new g
  one_part mid new f g one two =
      seen_as (λ s x. T s x.0 × U x.0 x.1) C (λ s x. x.1) old new (λ s. (f s, g s)) (both T (λ u s t. U u t) old mid new f g one two (λ r s q agree p h. h))
      (λ s q agree x. refl) (λ s x h. (is s x.1).1 (x.0, h.0, h.1)) (λ s t h. (let k : (u : P) × T s u × U u t = (is s t).0 h in ((k.0, t), (k.1, k.2), refl)))

  pub none_part : HasNone T old → HasNone C old
  none_part none = λ s h within t c. (let k : (u : P) × T s u × U u t = (is s t).0 c in none s h within k.0 k.1)

-- two parts, and a rule on their types
module _ {P Q R : Type 0} (T : Solution → P → Type 0) (V : Solution → Q → Type 0) (U : P → Q → R → Type 0) (C : Solution → R → Type 0) (old : Bindings) (reads : Reads (next_of old) V)
    (is : (s : Solution) (t : R) → C s t ↔ ((u : P) × (w : Q) × T s u × V s w × U u w t)) where
  pub two_parts : (one two new : Bindings) (f : Solution → P) (g : Solution → Q) (r : Solution → R) → Infers T old one f → Infers V one two g → Infers (λ s t. U (f s) (g s) t) two new r → Infers C old new r
  two_parts one two new f g r first second rule =
      seen_as (λ s x. (T s x.0.0 × V s x.0.1) × U x.0.0 x.0.1 x.1) C (λ s x. x.1) old new (λ s. ((f s, g s), r s))
      (both (λ s x. T s x.0 × V s x.1) (λ x s t. U x.0 x.1 t) old two new (λ s. (f s, g s)) r
      (both T (λ u s w. V s w) old one two f g first second (λ u. reads)) rule (λ x s q agree p h. h))
      (λ s q agree x. refl) (λ s x h. (is s x.1).1 (x.0.0, x.0.1, h.0.0, h.0.1, h.1))
      (λ s t h. (let k : (u : P) × (w : Q) × T s u × V s w × U u w t = (is s t).0 h in (((k.0, k.1), t), ((k.2, k.3), k.4), refl)))

  pub none_of_first : HasNone T old → HasNone C old
  none_of_first none = λ s h within t c. (let k : (u : P) × (w : Q) × T s u × V s w × U u w t = (is s t).0 c in none s h within k.0 k.2)

  pub none_of_second : (one : Bindings) (f : Solution → P) → Infers T old one f → HasNone V one → HasNone C old
  none_of_second one f first none = λ s h within t c.
      (let k : (u : P) × (w : Q) × T s u × V s w × U u w t = (is s t).0 c in
      none_second T (λ u q w. V q w) old one one f (λ q. k.1) first none (λ u. reads) s h within (k.0, k.1) (k.2, k.3))

-- operators before an operand

prefixed_type : (op : Prefix) (u t : Ground) → IsType u → Prefixed op u t → IsType t
prefixed_type sign.Plus u t type h = subst IsType (sym h.1) type
prefixed_type sign.Minus u t type h = subst IsType (sym h.1) type
prefixed_type sign.Not u t type h = subst IsType (sym h.1) (tt, omega arith)
prefixed_type sign.Exists u t type h = subst IsType (sym h.1) (tt, omega arith)

pub prefix_is : (op : Prefix) (ns : List Name) (of : Expr) (s : Solution) (t : Ground) → ShapeOf ns (prefix op (tree_of of)) s t ↔ ((u : Ground) × TypeOf ns of s u × Prefixed op u t)
prefix_is op ns of s t = (λ h. h.1, λ h. (prefixed_type op h.0 t (typed_type (tree_of of) (scope (env_under s ns)) h.0 h.1) h.2, h))

-- elements

pub index_is : (ns : List Name) (of at : Expr) (s : Solution) (t : Ground)
    → ShapeOf ns (index (tree_of of) (tree_of at)) s t ↔ ((u : Ground) × (w : Ground) × TypeOf ns of s u × TypeOf ns at s w × HasElement u w t)
index_is ns of at s t = (
  λ h. (g_array t, g_int, h.1.0, h.1.1, (h.0, (refl, refl))),
  λ h. (h.4.0, (subst (λ u. has (tree_of of) (scope (env_under s ns)) (type_is u)) h.4.1.0 h.2, subst (λ u. has (tree_of at) (scope (env_under s ns)) (type_is u)) h.4.1.1 h.3)),
)

-- a term is below the numbers of bindings that came later
pub below_later : (T : Solution → Ground → Type 0) (old new : Bindings) (f : Solution → Ground) → Infers T old new f → (g : Solution → Ground) → ((s q : Solution) → Agree (next_of old) s q → g s ≡ g q) → (s q : Solution) → Agree (next_of new) s q → g s ≡ g q
below_later T old new f h g below s q agree = below s q (agree_less (next_of new) (next_of old) s q agree h.more)

pub names_later : (T : Solution → Ground → Type 0) (old new : Bindings) (f : Solution → Ground) (ns : List Name) → Infers T old new f → NamesBelow (next_of old) ns → NamesBelow (next_of new) ns
names_later T old new f ns h below = λ s q agree. below s q (agree_less (next_of new) (next_of old) s q agree h.more)
