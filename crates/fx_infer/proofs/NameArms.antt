-- Inference of names, by what they are bound to.
use Rattle.std.proofs.Common.{◌≡◌, ◌↔◌, refl, sym, ap, subst, ◌∙◌, ℕ, zero, suc, ◌+◌, ◌<◌, true, false, List, [], ◌∷◌, take, drop, length, get_or, Result, Ok, Err, IfOk, Option, None, Some}
use Rattle.std.specs.Borrow.{Bor}
use Rattle.fx_base.specs.Text.{same_text}
use Rattle.fx_ast.specs.Tree.{name}
use Rattle.fx_ast.specs.Shape.{tree_of}
use Rattle.fx_ast.specs.declared.expr.Expr.{Expr}
use Rattle.fx_types.specs.Ground.{Ground, listed}
use Rattle.fx_types.specs.Instance.{Solution}
use Rattle.fx_types.specs.Size.{IsType}
use Rattle.fx_types.specs.Term.{Label}
use Rattle.fx_unify.specs.declared.bindings.Bindings.{Bindings}
use Rattle.fx_infer.specs.declared.ask.Inferred.{Inferred}
use Rattle.fx_infer.specs.declared.scope.Bound as bounds
use Rattle.fx_infer.specs.declared.scope.Bound.TheVariants as bound
use Rattle.fx_infer.specs.declared.scope.Name.{Name}
use Rattle.fx_infer.specs.Ask.{type_is}
use Rattle.fx_infer.specs.Environment.{Env, scope}
use Rattle.fx_infer.specs.Finds.{Finds}
use Rattle.fx_infer.specs.Infers.{HasNone}
use Rattle.fx_infer.specs.Names.{entry_by, entry_under, onto, env_under, NamesBelow, labels_among, TypeOf, ShapeOf, IsNewest}
use Rattle.fx_infer.specs.Native.{natives}
use Rattle.fx_infer.proofs.InfersLaws.{instead, none_instead}
use Rattle.fx_infer.proofs.ScopeLaws.{answers_of, bound_answers, free_answers, onto_at}
use Rattle.fx_infer.proofs.TypingLaws.{typed_type}

-- the names before one

abbrev tail : Env → Env
tail [] = []
tail (e ∷ env) = env

drop_tail : (k : ℕ) (env : Env) → drop (suc k) env ≡ tail (drop k env)
drop_tail zero [] = refl
drop_tail zero (e ∷ env) = refl
drop_tail (suc k) [] = refl
drop_tail (suc k) (e ∷ env) = drop_tail k env

drop_onto : (s : Solution) (ns : List Name) (env : Env) → drop (length ns) (onto s ns env) ≡ env
drop_onto s [] env = refl
drop_onto s (n ∷ ns) env = drop_tail (length ns) (onto s ns (entry_under s n ∷ env)) ∙ ap tail (drop_onto s ns (entry_under s n ∷ env))

behind : (s : Solution) (ns : List Name) (i : ℕ) (n : Name) → i < length ns → n ≡ get_or ns i n → tail (drop (length (drop (suc i) ns)) (env_under s ns)) ≡ env_under s (take i ns)
behind s ns i n lt at = ap (λ env. tail (drop (length (drop (suc i) ns)) env)) (onto_at s ns i n [] lt at) ∙ ap tail (drop_onto s (drop (suc i) ns) (entry_under s n ∷ env_under s (take i ns)))

pub prefix_below : (m : ℕ) (ns : List Name) (i : ℕ) (n : Name) → i < length ns → n ≡ get_or ns i n → NamesBelow m ns → NamesBelow m (take i ns)
prefix_below m ns i n lt at below = λ s q agree. sym (behind s ns i n lt at) ∙ ap (λ env. tail (drop (length (drop (suc i) ns)) env)) (below s q agree) ∙ behind q ns i n lt at

-- answers to a question in other words

pub finds_same : (T U : Solution → Ground → Type 0) (old : Bindings) (o : Option Inferred) → ((s : Solution) (t : Ground) → T s t ↔ U s t) → Finds T old o → Finds U old o
finds_same T U old None same h = none_instead T U old same h
finds_same T U old (Some x) same h = instead T U old x.bindings _ same h

pub finds_instead : {E : Type 0} (T U : Solution → Ground → Type 0) (old : Bindings) (r : Result (Option Inferred) E) → ((s : Solution) (t : Ground) → T s t ↔ U s t) → IfOk r (Finds T old) → IfOk r (Finds U old)
finds_instead T U old (Ok o) same h = finds_same T U old o same h
finds_instead T U old (Err e) same h = tt

-- a name that is bound
module _ (ns : List Name) (x : Label) (i : ℕ) (n : Name) (lt : i < length ns) (at : n ≡ get_or ns i n) (same : same_text x n.label.now ≡ true) (off : listed x (labels_among (drop (i + 1) ns)) ≡ false) where
  answers : (s : Solution) (b : bounds.Bound) → n.bound ≡ b → scope (env_under s ns) x ≡ answers_of (entry_by s n.label.now b) (env_under s (take i ns))
  answers s b is = bound_answers s ns x i n lt at same off ∙ ap (λ o. answers_of (entry_by s n.label.now o) (env_under s (take i ns))) is

  pub param_is : (k : ℕ) → n.bound ≡ bound.Param k → (s : Solution) (t : Ground) → (IsType t × (t ≡ s.type_of k)) ↔ ShapeOf ns (name x) s t
  param_is k is s t = (
    λ h. (h.0, subst (λ A. A (type_is t)) (sym (answers s (bound.Param k) is)) h),
    λ h. subst (λ A. A (type_is t)) (answers s (bound.Param k) is) h.1,
  )

  pub value_is : (e : Bor Expr) → n.bound ≡ bound.Assigned e → (s : Solution) (t : Ground) → TypeOf (take i ns) e.now s t ↔ ShapeOf ns (name x) s t
  value_is e is s t = (
    λ h. (typed_type (tree_of e.now) (scope (env_under s (take i ns))) t h, subst (λ A. A (type_is t)) (sym (answers s (bound.Assigned e) is)) h),
    λ h. subst (λ A. A (type_is t)) (answers s (bound.Assigned e) is) h.1,
  )

  pub no_package : (p : Bor (List ℕ)) → n.bound ≡ bound.Imported p → (b : Bindings) → HasNone (ShapeOf ns (name x)) b
  no_package p is b = λ s h within t c. subst (λ A. A (type_is t)) (answers s (bound.Imported p) is) c.1

pub free_is : (ns : List Name) (x : Label) → listed x (labels_among ns) ≡ false → (s : Solution) (t : Ground) → (IsType t × natives x (type_is t)) ↔ ShapeOf ns (name x) s t
free_is ns x off s t = (
  λ h. (h.0, subst (λ A. A (type_is t)) (sym (free_answers s ns x off)) h.1),
  λ h. (h.0, subst (λ A. A (type_is t)) (free_answers s ns x off) h.1),
)

-- what a search found
pub found_place : (x : Label) (ns : List Name) (r : Option ℕ) (i : ℕ) → r ≡ Some i → IsNewest x ns r
    → (i < length ns) × ((n : Name) → n ≡ get_or ns i n → same_text x n.label.now ≡ true) × (listed x (labels_among (drop (i + 1) ns)) ≡ false)
found_place x ns r i is h = subst (IsNewest x ns) is h
