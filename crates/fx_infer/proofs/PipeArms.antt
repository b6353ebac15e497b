-- Inference of calls one after another, each with what the one before gives.
use Rattle.std.proofs.Common.{◌≡◌, ◌↔◌, refl, sym, subst, ℕ, zero, suc, ◌+◌, ◌≤◌, ◌<◌, List, [], ◌∷◌, map, take, length, get_or, arith}
use Rattle.fx_ast.specs.Tree.{Tree, tree, call, pipe}
use Rattle.fx_ast.specs.Shape.{tree_of, trees_of}
use Rattle.fx_ast.specs.declared.expr.Expr.{Expr}
use Rattle.fx_types.specs.Ground.{Ground}
use Rattle.fx_types.specs.Instance.{Solution}
use Rattle.fx_types.specs.Size.{IsType}
use Rattle.fx_types.proofs.Lists.{take_all}
use Rattle.fx_unify.specs.declared.bindings.Bindings.{Bindings}
use Rattle.fx_unify.specs.Solutions.{next_of}
use Rattle.fx_infer.specs.declared.scope.Name.{Name}
use Rattle.fx_infer.specs.Ask.{Scope}
use Rattle.fx_infer.specs.Callees.{PipedOf}
use Rattle.fx_infer.specs.Environment.{scope}
use Rattle.fx_infer.specs.Infers.{Infers, HasNone}
use Rattle.fx_infer.specs.Names.{env_under, NamesBelow, TypeOf, ShapeOf}
use Rattle.fx_infer.specs.Typing.{has_pipes, has_pipe}
use Rattle.fx_infer.proofs.InfersLaws.{Reads, both, instead, none_second, seen_as}
use Rattle.fx_infer.proofs.TypingLaws.{typed_type}

pipe_type : (e : Tree) (S : Scope) (u t : Ground) → has_pipe e S u t → IsType t
pipe_type (tree place (call e ps)) S u t h = h.0
pipe_type (tree place s) S u t h = absurd h

-- one call more

pipes_next : (S : Scope) (u t : Ground) (es : List Expr) (i : ℕ) (e : Expr) → i < length es → e ≡ get_or es i e
    → has_pipes (trees_of (map tree_of (take (suc i) es))) S u t ↔ ((v : Ground) × has_pipes (trees_of (map tree_of (take i es))) S u v × has_pipe (tree_of e) S v t)
pipes_next S u t [] i e lt at = absurd (omega arith)
pipes_next S u t (d ∷ es) zero e lt at = (
  λ h. (u, refl, subst (λ x. has_pipe (tree_of x) S u t) (sym at) (subst (λ w. has_pipe (tree_of d) S u w) h.2 h.1)),
  λ h. (t, subst (λ v. has_pipe (tree_of d) S v t) (sym h.1) (subst (λ x. has_pipe (tree_of x) S h.0 t) at h.2), refl),
)
pipes_next S u t (d ∷ es) (suc i) e lt at = (
  λ h. (let k : (v : Ground) × has_pipes (trees_of (map tree_of (take i es))) S h.0 v × has_pipe (tree_of e) S v t = (pipes_next S h.0 t es i e (omega arith) at).0 h.2 in (k.0, (h.0, h.1, k.1), k.2)),
  λ h. (h.1.0, h.1.1, (pipes_next S h.1.0 t es i e (omega arith) at).1 (h.0, h.1.2, h.2)),
)

pipes_part : (S : Scope) (u t : Ground) (es : List Expr) (i : ℕ) → has_pipes (trees_of (map tree_of es)) S u t → (v : Ground) × has_pipes (trees_of (map tree_of (take i es))) S u v
pipes_part S u t es zero h = (u, refl)
pipes_part S u t [] (suc i) h = (u, refl)
pipes_part S u t (d ∷ es) (suc i) h = (let k : (v : Ground) × has_pipes (trees_of (map tree_of (take i es))) S h.0 v = pipes_part S h.0 t es i h.2 in (k.0, (h.0, h.1, k.1)))

pipes_type : (S : Scope) (u t : Ground) (es : List Expr) → IsType u → has_pipes (trees_of (map tree_of es)) S u t → IsType t
pipes_type S u t [] type h = subst IsType h type
pipes_type S u t (d ∷ es) type h = pipes_type S h.0 t es (pipe_type (tree_of d) S u h.0 h.1) h.2

-- what comes in first, and the calls so far
abbrev pub PipesOf : List Name → Expr → List Expr → Solution → Ground → Type 0
PipesOf ns e es s t = (u : Ground) × TypeOf ns e s u × has_pipes (trees_of (map tree_of es)) (scope (env_under s ns)) u t

pub pipes_start : (ns : List Name) (e : Expr) (es : List Expr) (old new : Bindings) (f : Solution → Ground) → Infers (TypeOf ns e) old new f → Infers (PipesOf ns e (take 0 es)) old new f
pipes_start ns e es old new f h = instead (TypeOf ns e) (PipesOf ns e (take 0 es)) old new f (λ s t. (λ k. (t, k, refl), λ k. subst (TypeOf ns e s) k.2 k.1)) h

pub no_input : (ns : List Name) (e : Expr) (es : List Expr) (old : Bindings) → HasNone (TypeOf ns e) old → HasNone (ShapeOf ns (pipe (tree_of e) (trees_of (map tree_of es)))) old
no_input ns e es old none = λ s h within t c. none s h within c.1.0 c.1.1

module _ (ns : List Name) (e : Expr) (es : List Expr) (old : Bindings) (names : NamesBelow (next_of old) ns) where
  piped_reads : (x : Expr) (u : Ground) → Reads (next_of old) (λ s t. PipedOf ns x s u t)
  piped_reads x u = λ s q agree t h. subst (λ env. has_pipe (tree_of x) (scope env) u t) (names s q agree) h

  module _ (now : Bindings) (f : Solution → Ground) (i : ℕ) (x : Expr) (lt : i < length es) (at : x ≡ get_or es i x) (before : Infers (PipesOf ns e (take i es)) old now f) where
    pub pipes_grow : (new : Bindings) (g : Solution → Ground) → Infers (λ s t. PipedOf ns x s (f s) t) now new g → Infers (PipesOf ns e (take (i + 1) es)) old new g
    pipes_grow new g step =
        let next : suc i ≡ i + 1 = omega arith in
        subst (λ k. Infers (PipesOf ns e (take k es)) old new g) next
        (seen_as (λ s y. PipesOf ns e (take i es) s y.0 × PipedOf ns x s y.0 y.1) (PipesOf ns e (take (suc i) es)) (λ s y. y.1) old new (λ s. (f s, g s))
        (both (PipesOf ns e (take i es)) (λ v s t. PipedOf ns x s v t) old now new f g before step (λ v. piped_reads x v))
        (λ s q agree y. refl)
        (λ s y h. (h.0.0, h.0.1, (pipes_next (scope (env_under s ns)) h.0.0 y.1 es i x lt at).1 (y.0, h.0.2, h.1)))
        (λ s t h. (let k = (pipes_next (scope (env_under s ns)) h.0 t es i x lt at).0 h.2 in ((k.0, t), ((h.0, h.1, k.1), k.2), refl))))

    pub no_piped : HasNone (λ s t. PipedOf ns x s (f s) t) now → HasNone (ShapeOf ns (pipe (tree_of e) (trees_of (map tree_of es)))) old
    no_piped none = λ s h within t c.
        (let part = pipes_part (scope (env_under s ns)) c.1.0 t es (suc i) c.1.2 in
        let k = (pipes_next (scope (env_under s ns)) c.1.0 part.0 es i x lt at).0 part.1 in
        none_second (PipesOf ns e (take i es)) (λ v s u. PipedOf ns x s v u) old now now f f before none (λ v. piped_reads x v) s h within (k.0, part.0)
        ((c.1.0, c.1.1, k.1), k.2))

  pub pipes_found : (now : Bindings) (f : Solution → Ground) (i : ℕ) → length es ≤ i → Infers (PipesOf ns e (take i es)) old now f → Infers (ShapeOf ns (pipe (tree_of e) (trees_of (map tree_of es)))) old now f
  pipes_found now f i le h =
      instead (PipesOf ns e es) (ShapeOf ns (pipe (tree_of e) (trees_of (map tree_of es)))) old now f
      (λ s t. (λ k. (pipes_type (scope (env_under s ns)) k.0 t es (typed_type (tree_of e) (scope (env_under s ns)) k.0 k.1) k.2, k), λ k. k.1))
      (subst (λ ds. Infers (PipesOf ns e ds) old now f) (take_all es i le) h)
