-- Inference of operators one after another.
use Rattle.std.proofs.Common.{◌≡◌, ◌↔◌, refl, sym, ap, subst, ℕ, zero, suc, ◌+◌, ◌≤◌, ◌<◌, List, [], ◌∷◌, map, take, length, get_or, arith}
use Rattle.fx_ast.specs.Tree.{chain}
use Rattle.fx_ast.specs.Shape.{OfLink, tree_of, link, links_of}
use Rattle.fx_ast.specs.declared.expr.Expr.{Expr}
use Rattle.fx_ast.specs.declared.expr.Link.{Link}
use Rattle.fx_ast.specs.declared.expr.Infix.{Infix}
use Rattle.fx_ast.specs.declared.expr.Infix.TheVariants as between
use Rattle.fx_ast.proofs.ShapeLaws.{link_is}
use Rattle.fx_types.specs.Ground.{Ground, g_bool}
use Rattle.fx_types.specs.Instance.{Solution, ground}
use Rattle.fx_types.specs.Size.{IsType}
use Rattle.fx_types.specs.Term.{Term}
use Rattle.fx_types.proofs.Lists.{take_all}
use Rattle.fx_unify.specs.declared.bindings.Bindings.{Bindings}
use Rattle.fx_unify.specs.Solutions.{next_of}
use Rattle.fx_infer.specs.declared.scope.Name.{Name}
use Rattle.fx_infer.specs.Ask.{type_is, Scope}
use Rattle.fx_infer.specs.Environment.{scope}
use Rattle.fx_infer.specs.Infers.{Infers, HasNone, IsBelow}
use Rattle.fx_infer.specs.Names.{env_under, NamesBelow, TypeOf, ShapeOf, LinkOf}
use Rattle.fx_infer.specs.Operators.{Infixed}
use Rattle.fx_infer.specs.Typing.{has, has_links}
use Rattle.fx_infer.proofs.ArmLaws.{type_reads}
use Rattle.fx_infer.proofs.InfersLaws.{Reads, both, instead, none_second, seen_as}
use Rattle.fx_infer.proofs.TypingLaws.{typed_type}

bool_type : (t : Ground) → t ≡ g_bool → IsType t
bool_type t e = subst IsType (sym e) (tt, omega arith)

infixed_type : (op : Infix) (u w t : Ground) → IsType u → Infixed op u w t → IsType t
infixed_type between.Or u w t type h = bool_type t h.2
infixed_type between.And u w t type h = bool_type t h.2
infixed_type between.Eq u w t type h = bool_type t h.2
infixed_type between.Ne u w t type h = bool_type t h.2
infixed_type between.Lt u w t type h = bool_type t h.2
infixed_type between.Le u w t type h = bool_type t h.2
infixed_type between.Gt u w t type h = bool_type t h.2
infixed_type between.Ge u w t type h = bool_type t h.2
infixed_type between.Like u w t type h = bool_type t h.2
infixed_type between.NotLike u w t type h = bool_type t h.2
infixed_type between.Add u w t type h = subst IsType (sym h.2) type
infixed_type between.Sub u w t type h = subst IsType (sym h.2) type
infixed_type between.Mul u w t type h = subst IsType (sym h.2) type
infixed_type between.Div u w t type h = subst IsType (sym h.2) type
infixed_type between.Rem u w t type h = subst IsType (sym h.2) type

-- one link more

abbrev Step : Scope → OfLink → Ground → Ground → Type 0
Step S o u t = (w : Ground) × has o.right S (type_is w) × Infixed o.op u w t

links_next : (S : Scope) (u t : Ground) (ls : List Link) (i : ℕ) (l : Link) → i < length ls → l ≡ get_or ls i l
    → has_links (links_of (map link (take (suc i) ls))) S u t ↔ ((v : Ground) × has_links (links_of (map link (take i ls))) S u v × Step S (link l) v t)
links_next S u t [] i l lt at = absurd (omega arith)
links_next S u t (m ∷ ls) zero l lt at = (
  λ h. (u, refl, subst (λ k. Step S (link k) u t) (sym at) (h.0, h.2, subst (λ v. Infixed (link m).op u h.0 v) h.4 h.3)),
  λ h. (let k : Step S (link m) u t = subst (λ v. Step S (link m) v t) (sym h.1) (subst (λ k. Step S (link k) h.0 t) at h.2) in (k.0, t, k.1, k.2, refl)),
)
links_next S u t (m ∷ ls) (suc i) l lt at = (
  λ h. (let k : (v : Ground) × has_links (links_of (map link (take i ls))) S h.1 v × Step S (link l) v t = (links_next S h.1 t ls i l (omega arith) at).0 h.4 in (k.0, (h.0, h.1, h.2, h.3, k.1), k.2)),
  λ h. (h.1.0, h.1.1, h.1.2, h.1.3, (links_next S h.1.1 t ls i l (omega arith) at).1 (h.0, h.1.4, h.2)),
)

links_part : (S : Scope) (u t : Ground) (ls : List Link) (i : ℕ) → has_links (links_of (map link ls)) S u t → (v : Ground) × has_links (links_of (map link (take i ls))) S u v
links_part S u t ls zero h = (u, refl)
links_part S u t [] (suc i) h = (u, refl)
links_part S u t (m ∷ ls) (suc i) h = (let k : (v : Ground) × has_links (links_of (map link (take i ls))) S h.1 v = links_part S h.1 t ls i h.4 in (k.0, (h.0, h.1, h.2, h.3, k.1)))

links_type : (S : Scope) (u t : Ground) (ls : List Link) → IsType u → has_links (links_of (map link ls)) S u t → IsType t
links_type S u t [] type h = subst IsType h type
links_type S u t (m ∷ ls) type h = links_type S h.1 t ls (infixed_type (link m).op u h.0 h.1 type h.3) h.4

step_is : (ns : List Name) (l : Link) (s : Solution) (u t : Ground) → Step (scope (env_under s ns)) (link l) u t ≡ LinkOf ns l s u t
step_is ns l s u t = ap (λ o. Step (scope (env_under s ns)) o u t) (link_is l)

-- the first operand, and the links so far
abbrev pub ChainOf : List Name → Expr → List Link → Solution → Ground → Type 0
ChainOf ns e ls s t = (u : Ground) × TypeOf ns e s u × has_links (links_of (map link ls)) (scope (env_under s ns)) u t

pub chain_start : (ns : List Name) (e : Expr) (ls : List Link) (old new : Bindings) (f : Solution → Ground) → Infers (TypeOf ns e) old new f → Infers (ChainOf ns e (take 0 ls)) old new f
chain_start ns e ls old new f h = instead (TypeOf ns e) (ChainOf ns e (take 0 ls)) old new f (λ s t. (λ k. (t, k, refl), λ k. subst (TypeOf ns e s) k.2 k.1)) h

pub no_start : (ns : List Name) (e : Expr) (ls : List Link) (old : Bindings) → HasNone (TypeOf ns e) old → HasNone (ShapeOf ns (chain (tree_of e) (links_of (map link ls)))) old
no_start ns e ls old none = λ s h within t c. none s h within c.1.0 c.1.1

module _ (ns : List Name) (e : Expr) (ls : List Link) (old : Bindings) (names : NamesBelow (next_of old) ns) where
  link_reads : (l : Link) (u : Ground) → Reads (next_of old) (λ s t. LinkOf ns l s u t)
  link_reads l u = λ s q agree t h. (h.0, type_reads (next_of old) ns l.right names s q agree h.0 h.1, h.2)

  module _ (now : Bindings) (f : Solution → Ground) (i : ℕ) (l : Link) (lt : i < length ls) (at : l ≡ get_or ls i l) (before : Infers (ChainOf ns e (take i ls)) old now f) where
    pub chain_grow : (new : Bindings) (g : Solution → Ground) → Infers (λ s t. LinkOf ns l s (f s) t) now new g → Infers (ChainOf ns e (take (i + 1) ls)) old new g
    chain_grow new g step =
        let next : suc i ≡ i + 1 = omega arith in
        subst (λ k. Infers (ChainOf ns e (take k ls)) old new g) next
        (seen_as (λ s x. ChainOf ns e (take i ls) s x.0 × LinkOf ns l s x.0 x.1) (ChainOf ns e (take (suc i) ls)) (λ s x. x.1) old new (λ s. (f s, g s))
        (both (ChainOf ns e (take i ls)) (λ v s t. LinkOf ns l s v t) old now new f g before step (λ v. link_reads l v))
        (λ s q agree x. refl)
        (λ s x h. (h.0.0, h.0.1, (links_next (scope (env_under s ns)) h.0.0 x.1 ls i l lt at).1 (x.0, h.0.2, subst (λ A. A) (sym (step_is ns l s x.0 x.1)) h.1)))
        (λ s t h. (let k : (v : Ground) × has_links (links_of (map link (take i ls))) (scope (env_under s ns)) h.0 v × Step (scope (env_under s ns)) (link l) v t = (links_next (scope (env_under s ns)) h.0 t ls i l lt at).0 h.2 in
        ((k.0, t), ((h.0, h.1, k.1), subst (λ A. A) (step_is ns l s k.0 t) k.2), refl))))

    pub no_link : HasNone (λ s t. LinkOf ns l s (f s) t) now → HasNone (ShapeOf ns (chain (tree_of e) (links_of (map link ls)))) old
    no_link none = λ s h within t c.
        (let part : (v : Ground) × has_links (links_of (map link (take (suc i) ls))) (scope (env_under s ns)) c.1.0 v = links_part (scope (env_under s ns)) c.1.0 t ls (suc i) c.1.2 in
        let k : (v : Ground) × has_links (links_of (map link (take i ls))) (scope (env_under s ns)) c.1.0 v × Step (scope (env_under s ns)) (link l) v part.0 = (links_next (scope (env_under s ns)) c.1.0 part.0 ls i l lt at).0 part.1 in
        none_second (ChainOf ns e (take i ls)) (λ v s u. LinkOf ns l s v u) old now now f f before none (λ v. link_reads l v) s h within (k.0, part.0)
        ((c.1.0, c.1.1, k.1), subst (λ A. A) (step_is ns l s k.0 part.0) k.2))

  pub chain_found : (now : Bindings) (f : Solution → Ground) (i : ℕ) → length ls ≤ i → Infers (ChainOf ns e (take i ls)) old now f → Infers (ShapeOf ns (chain (tree_of e) (links_of (map link ls)))) old now f
  chain_found now f i le h =
      instead (ChainOf ns e ls) (ShapeOf ns (chain (tree_of e) (links_of (map link ls)))) old now f
      (λ s t. (λ k. (links_type (scope (env_under s ns)) k.0 t ls (typed_type (tree_of e) (scope (env_under s ns)) k.0 k.1) k.2, k), λ k. k.1))
      (subst (λ ms. Infers (ChainOf ns e ms) old now f) (take_all ls i le) h)

-- the right operand, and the operator
pub link_found : (ns : List Name) (l : Link) (old mid new : Bindings) (left : Term) (f g : Solution → Ground) → IsBelow (next_of old) left → Infers (TypeOf ns l.right) old mid f → Infers (λ s t. Infixed l.op (ground s left) (f s) t) mid new g
    → Infers (λ s t. LinkOf ns l s (ground s left) t) old new g
link_found ns l old mid new left f g below right rule =
    seen_as (λ s x. TypeOf ns l.right s x.0 × Infixed l.op (ground s left) x.0 x.1) (λ s t. LinkOf ns l s (ground s left) t) (λ s x. x.1) old new (λ s. (f s, g s))
    (both (TypeOf ns l.right) (λ w s t. Infixed l.op (ground s left) w t) old mid new f g right rule (λ w s q agree t h. subst (λ u. Infixed l.op u w t) (below s q agree) h))
    (λ s q agree x. refl) (λ s x h. (x.0, h.0, h.1)) (λ s t h. ((h.0, t), (h.1, h.2), refl))

pub no_right : (ns : List Name) (l : Link) (old : Bindings) (left : Term) → HasNone (TypeOf ns l.right) old → HasNone (λ s t. LinkOf ns l s (ground s left) t) old
no_right ns l old left none = λ s h within t c. none s h within c.0 c.1
