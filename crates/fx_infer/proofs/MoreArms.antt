-- Inference of branches and arrays from that of their parts.
use Rattle.std.proofs.Common.{◌≡◌, ◌↔◌, refl, sym, subst, ◌∙◌, ℕ, zero, suc, ◌+◌, ◌≤◌, ◌<◌, List, [], ◌∷◌, map, take, length, get_or, arith}
use Rattle.fx_ast.specs.Tree.{array, if_then}
use Rattle.fx_ast.specs.Shape.{tree_of, trees_of}
use Rattle.fx_ast.specs.declared.expr.Expr.{Expr}
use Rattle.fx_types.specs.Ground.{Ground, g_bool, g_array}
use Rattle.fx_types.specs.Instance.{Solution, ground}
use Rattle.fx_types.specs.Size.{IsType}
use Rattle.fx_types.specs.Term.{Term}
use Rattle.fx_types.proofs.AgreeLaws.{agree_less}
use Rattle.fx_types.proofs.Lists.{take_all}
use Rattle.fx_types.proofs.PartLaws.{element_type}
use Rattle.fx_unify.specs.declared.bindings.Bindings.{Bindings}
use Rattle.fx_unify.specs.Solutions.{Solves, next_of}
use Rattle.fx_infer.specs.declared.scope.Name.{Name}
use Rattle.fx_infer.specs.Ask.{type_is, Scope}
use Rattle.fx_infer.specs.Environment.{scope}
use Rattle.fx_infer.specs.Infers.{Infers, Asks, HasNone, IsBelow}
use Rattle.fx_infer.specs.Names.{env_under, NamesBelow, TypeOf, ShapeOf}
use Rattle.fx_infer.specs.Typing.{has, has_items}
use Rattle.fx_infer.proofs.ArmLaws.{type_reads}
use Rattle.fx_infer.proofs.InfersLaws.{Reads, asked, both, none_second, seen_as}
use Rattle.fx_infer.proofs.TypingLaws.{typed_type}

-- an expression of a wanted type
pub typed_asked : (T : Solution → Ground → Type 0) (old mid new : Bindings) (f : Solution → Ground) (w : Term) → IsBelow (next_of old) w → Infers T old mid f → Asks (λ s. f s ≡ ground s w) mid new
    → Asks (λ s. T s (ground s w)) old new
typed_asked T old mid new f w below one two =
    seen_as (λ s x. T s x.0 × (x.0 ≡ ground s w)) (λ s u. T s (ground s w)) (λ s x. tt) old new (λ s. (f s, tt))
    (both T (λ r s u. r ≡ ground s w) old mid new f (λ s. tt) one two (λ r s q agree u e. e ∙ below s q agree))
    (λ s q agree x. refl) (λ s x h. subst (T s) h.1 h.0) (λ s u h. ((ground s w, tt), (h, refl), refl))

-- a test and two branches
module _ (A : Solution → Type 0) (B D C : Solution → Ground → Type 0) (old : Bindings) (b_reads : Reads (next_of old) B) (d_reads : Reads (next_of old) D) (is : (s : Solution) (t : Ground) → C s t ↔ (A s × B s t × D s t)) where
  pub if_found : (one two new : Bindings) (f : Solution → Ground) → Asks A old one → Infers B one two f → Asks (λ s. D s (f s)) two new → Infers C old new f
  if_found one two new f first second third =
      seen_as (λ s x. (A s × B s x.0.1) × D s x.0.1) C (λ s x. x.0.1) old new (λ s. ((tt, f s), tt))
      (both (λ s x. A s × B s x.1) (λ x s u. D s x.1) old two new (λ s. (tt, f s)) (λ s. tt)
      (both (λ s u. A s) (λ u s t. B s t) old one two (λ s. tt) f first second (λ u. b_reads)) third (λ x s q agree u d. d_reads s q agree x.1 d))
      (λ s q agree x. refl) (λ s x h. (is s x.0.1).1 (h.0.0, h.0.1, h.1)) (λ s t h. (let k : A s × B s t × D s t = (is s t).0 h in (((tt, t), tt), ((k.0, k.1), k.2), refl)))

  pub no_test : HasNone {R = Unit {0}} (λ s u. A s) old → HasNone C old
  no_test none = λ s h within t c. none s h within tt ((is s t).0 c).0

  pub no_branch : (one : Bindings) → Asks A old one → HasNone B one → HasNone C old
  no_branch one first none = λ s h within t c.
      (let k : A s × B s t × D s t = (is s t).0 c in
      none_second (λ s u. A s) (λ u s t. B s t) old one one (λ s. tt) (λ s. t) first none (λ u. b_reads) s h within (tt, t) (k.0, k.1))

  pub no_other : (one two : Bindings) (f : Solution → Ground) → Asks A old one → Infers B one two f → HasNone {R = Unit {0}} (λ s u. D s (f s)) two → HasNone C old
  no_other one two f first second none = λ s h within t c.
      (let k : A s × B s t × D s t = (is s t).0 c in
      none_second (λ s x. A s × B s x.1) (λ x s u. D s x.1) old two two (λ s. (tt, f s)) (λ s. tt) (both (λ s u. A s) (λ u s t. B s t) old one two (λ s. tt) f first second (λ u. b_reads)) none
      (λ x s q agree u d. d_reads s q agree x.1 d) s h within ((tt, t), tt) ((k.0, k.1), k.2))

pub if_is : (ns : List Name) (a b c : Expr) (w : Term) → ((s : Solution) → ground s w ≡ g_bool) → (s : Solution) (t : Ground)
    → ShapeOf ns (if_then (tree_of a) (tree_of b) (tree_of c)) s t ↔ (TypeOf ns a s (ground s w) × TypeOf ns b s t × TypeOf ns c s t)
if_is ns a b c w bool s t = (
  λ h. (subst (TypeOf ns a s) (sym (bool s)) h.1.0, h.1.1, h.1.2),
  λ h. (typed_type (tree_of b) (scope (env_under s ns)) t h.1, (subst (TypeOf ns a s) (bool s) h.0, h.1, h.2)),
)

-- the items of an array have the type

abbrev pub ItemsOf : List Name → List Expr → Solution → Ground → Type 0
ItemsOf ns es s u = has_items (trees_of (map tree_of es)) (scope (env_under s ns)) u

items_reads : (n : ℕ) (ns : List Name) (es : List Expr) → NamesBelow n ns → Reads n (ItemsOf ns es)
items_reads n ns es below = λ s q agree u h. subst (λ env. has_items (trees_of (map tree_of es)) (scope env) u) (below s q agree) h

items_next : (S : Scope) (u : Ground) (es : List Expr) (i : ℕ) (e : Expr) → i < length es → e ≡ get_or es i e
    → has_items (trees_of (map tree_of (take (suc i) es))) S u ↔ (has_items (trees_of (map tree_of (take i es))) S u × has (tree_of e) S (type_is u))
items_next S u [] i e lt at = absurd (omega arith)
items_next S u (d ∷ es) zero e lt at = (λ h. (tt, subst (λ x. has (tree_of x) S (type_is u)) (sym at) h.0), λ h. (subst (λ x. has (tree_of x) S (type_is u)) at h.1, tt))
items_next S u (d ∷ es) (suc i) e lt at =
    let next : has_items (trees_of (map tree_of (take (suc i) es))) S u ↔ (has_items (trees_of (map tree_of (take i es))) S u × has (tree_of e) S (type_is u)) = items_next S u es i e (omega arith) at in
    (λ h. ((h.0, (next.0 h.1).0), (next.0 h.1).1), λ h. (h.0.0, next.1 (h.0.1, h.1)))

items_part : (S : Scope) (u : Ground) (es : List Expr) (i : ℕ) → has_items (trees_of (map tree_of es)) S u → has_items (trees_of (map tree_of (take i es))) S u
items_part S u es zero h = tt
items_part S u [] (suc i) h = tt
items_part S u (d ∷ es) (suc i) h = (h.0, items_part S u es i h.1)

module _ (ns : List Name) (es : List Expr) (start : Bindings) (w : Term) (names : NamesBelow (next_of start) ns) (below : IsBelow (next_of start) w) where
  abbrev Items : List Expr → Solution → Type 0
  Items ds s = ItemsOf ns ds s (ground s w)

  pub items_start : Asks (Items (take 0 es)) start start
  items_start = asked (Items (take 0 es)) start start (let le : next_of start ≤ next_of start = omega arith in le) (λ s. (λ h. (h, tt), λ h. h.0))

  item_reads : (e : Expr) → Reads {R = Unit {0}} (next_of start) (λ s u. TypeOf ns e s (ground s w))
  item_reads e = λ s q agree u h. subst (TypeOf ns e q) (below s q agree) (type_reads (next_of start) ns e names s q agree (ground s w) h)

  pub items_grow : (now new : Bindings) (i : ℕ) (e : Expr) → i < length es → e ≡ get_or es i e → Asks (Items (take i es)) start now → Asks (λ s. TypeOf ns e s (ground s w)) now new → Asks (Items (take (i + 1) es)) start new
  items_grow now new i e lt at one two =
      let next : suc i ≡ i + 1 = omega arith in
      subst (λ k. Asks (Items (take k es)) start new) next
      (seen_as (λ s x. Items (take i es) s × TypeOf ns e s (ground s w)) (λ s u. Items (take (suc i) es) s) (λ s x. tt) start new (λ s. (tt, tt))
      (both (λ s u. Items (take i es) s) (λ r s u. TypeOf ns e s (ground s w)) start now new (λ s. tt) (λ s. tt) one two (λ r. item_reads e))
      (λ s q agree x. refl) (λ s x h. (items_next (scope (env_under s ns)) (ground s w) es i e lt at).1 h) (λ s u h. ((tt, tt), (items_next (scope (env_under s ns)) (ground s w) es i e lt at).0 h, refl)))

  pub items_all : (now : Bindings) (i : ℕ) → length es ≤ i → Asks (Items (take i es)) start now → Asks (Items es) start now
  items_all now i le h = subst (λ ds. Asks (Items ds) start now) (take_all es i le) h

  pub no_item : (now : Bindings) (i : ℕ) (e : Expr) → i < length es → e ≡ get_or es i e → Asks (Items (take i es)) start now → HasNone {R = Unit {0}} (λ s u. TypeOf ns e s (ground s w)) now → HasNone {R = Unit {0}} (λ s u. Items es s) start
  no_item now i e lt at one none = λ s h within u c.
      (let part : Items (take i es) s × TypeOf ns e s (ground s w) = (items_next (scope (env_under s ns)) (ground s w) es i e lt at).0 (items_part (scope (env_under s ns)) (ground s w) es (suc i) c) in
      none_second (λ s u. Items (take i es) s) (λ r s u. TypeOf ns e s (ground s w)) start now now (λ s. tt) (λ s. tt) one none (λ r. item_reads e) s h within (tt, tt) part)

-- an array of items

module _ (ns : List Name) (es : List Expr) (old start : Bindings) (f : Solution → Ground) (names : NamesBelow (next_of old) ns) (element : Infers (λ s t. IsType t × IsType (g_array t)) old start f) where
  pub array_found : (new : Bindings) → Asks (λ s. ItemsOf ns es s (f s)) start new → Infers (ShapeOf ns (array (trees_of (map tree_of es)))) old new (λ s. g_array (f s))
  array_found new items =
      seen_as (λ s x. (IsType x.0 × IsType (g_array x.0)) × ItemsOf ns es s x.0) (ShapeOf ns (array (trees_of (map tree_of es)))) (λ s x. g_array x.0) old new (λ s. (f s, tt))
      (both (λ s t. IsType t × IsType (g_array t)) (λ t s u. ItemsOf ns es s t) old start new f (λ s. tt) element items (λ t s q agree u h. items_reads (next_of old) ns es names s q agree t h))
      (λ s q agree x. refl) (λ s x h. (h.0.1, (x.0, refl, h.1)))
      (λ s t h. ((h.1.0, tt), ((element_type h.1.0 (subst IsType h.1.1 h.0), subst IsType h.1.1 h.0), h.1.2), sym h.1.1))

  pub no_array : HasNone {R = Unit {0}} (λ s u. ItemsOf ns es s (f s)) start → HasNone (ShapeOf ns (array (trees_of (map tree_of es)))) old
  no_array none = λ s h within t c.
      none_second (λ s t. IsType t × IsType (g_array t)) (λ t s u. ItemsOf ns es s t) old start start f (λ s. tt) element none (λ t s q agree u k. items_reads (next_of old) ns es names s q agree t k) s h within (c.1.0, tt)
      ((element_type c.1.0 (subst IsType c.1.1 c.0), subst IsType c.1.1 c.0), c.1.2)

-- an element whose array is a type, too
pub array_asked : (old mid new : Bindings) (f : Solution → Ground) → Infers (λ s t. IsType t) old mid f → ((s : Solution) → Solves s new ↔ (Solves s mid × IsType (g_array (f s)))) → next_of mid ≤ next_of new
    → Infers (λ s t. IsType t × IsType (g_array t)) old new f
array_asked old mid new f one is le =
    seen_as (λ s x. IsType x.0 × IsType (g_array x.0)) (λ s t. IsType t × IsType (g_array t)) (λ s x. x.0) old new (λ s. (f s, tt))
    (both (λ s t. IsType t) (λ t s u. IsType (g_array t)) old mid new f (λ s. tt) one (asked (λ s. IsType (g_array (f s))) mid new le is) (λ t s q agree u h. h))
    (λ s q agree x. refl) (λ s x h. h) (λ s t h. ((t, tt), h, refl))

-- numbers that grow

pub at_later : (n m k : ℕ) → n ≤ m → m ≤ k → n ≤ k
at_later n m k a b = omega arith

pub below_more : (n m : ℕ) (w : Term) → n ≤ m → IsBelow n w → IsBelow m w
below_more n m w le below = λ s q agree. below s q (agree_less m n s q agree le)
