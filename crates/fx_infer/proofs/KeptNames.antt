-- Names whose types were kept: their use, and their call.
use Rattle.std.proofs.Common.{◌≡◌, ◌↔◌, refl, sym, ap, subst, ◌∙◌, ℕ, zero, suc, ◌<◌, true, false, List, [], ◌∷◌, ◌++◌, take, length, get_or, arith}
use mathlib.Core.Bool.{true≢false}
use Rattle.fx_types.specs.Ground.{Ground}
use Rattle.fx_types.specs.Instance.{Solution}
use Rattle.fx_types.specs.Size.{IsType}
use Rattle.fx_types.specs.Term.{Label, Term}
use Rattle.fx_schemes.specs.Line.{value}
use Rattle.fx_unify.specs.declared.bindings.Bindings.{Bindings}
use Rattle.fx_generalize.specs.declared.solved.Solved.{Solved}
use Rattle.fx_generalize.specs.Solved as solved
use Rattle.fx_ast.specs.Tree.{Tree, tree, name, paren, fun, Params, no_params, more_params, required, by_pipe, by_value}
use Rattle.fx_infer.specs.declared.scope.Bound as bounds
use Rattle.fx_infer.specs.declared.scope.Name.{Name}
use Rattle.fx_infer.specs.Ask.{type_is, Scope}
use Rattle.fx_infer.specs.Callees.{IsValue}
use Rattle.fx_infer.specs.Environment.{assigned, Env, scope, HasType}
use Rattle.fx_infer.specs.Kept.{IsKeptOf, are_required, is_as_typed, Along}
use Rattle.fx_infer.specs.Names.{entry_under, onto, env_under, ShapeOf}
use Rattle.fx_infer.specs.Parameters.{is_optional, piped, first, field_if, type_of, line_of, literal}
use Rattle.fx_infer.specs.Typing.{has}
use Rattle.fx_infer.proofs.CalleeLaws.{value_answers}
use Rattle.fx_infer.proofs.ScopeLaws.{answers_of}
use Rattle.fx_infer.proofs.TypingLaws.{typed_type}

-- what is kept of settled bindings
pub kept_of : (env : Env) (e : Tree) (b : Bindings) (t : Term) (v : Solved) → solved.IsSolvedOf b t v → ((g : Ground) → solved.HasType b t g ↔ HasType env e g) → (g : Ground) → solved.HasInstance v g ↔ HasType env e g
kept_of env e b t v one two g = (λ h. (two g).0 ((one g).0 h), λ h. (one g).1 ((two g).1 h))

-- the instances that are types are those that a use may have
pub instance_is : (env : Env) (e : Tree) (v : Solved) → IsKeptOf env e v → (t : Ground) → (solved.HasInstance v t × IsType t) ↔ HasType env e t
instance_is env e v kept t = (λ h. (kept.1 t).0 h.0, λ h. ((kept.1 t).1 h, typed_type e (scope env) t h))

-- a literal whose parameters are all required is called as the value that it is

none_optional : (ps : Params) (l : Label) → are_required ps ≡ true → is_optional l ps ≡ false
none_optional no_params l h = refl
none_optional (more_params x required ps) l h = none_optional ps l h
none_optional (more_params x by_pipe ps) l h = absurd (true≢false (sym h))
none_optional (more_params x (by_value e) ps) l h = absurd (true≢false (sym h))

none_piped : (ps : Params) → are_required ps ≡ true → piped ps ≡ []
none_piped no_params h = refl
none_piped (more_params x required ps) h = none_piped ps h
none_piped (more_params x by_pipe ps) h = absurd (true≢false (sym h))
none_piped (more_params x (by_value e) ps) h = absurd (true≢false (sym h))

line_is_value : (ps : Params) (P : Label → Ground) (t : Ground) → are_required ps ≡ true → line_of ps P t ≡ value (type_of ps P t)
line_is_value ps P t h =
    λ i. record { labels = []; type = type_of ps P t; optional = λ l. field_if (none_optional ps l h i) (P l); pipe_label = first (none_piped ps h i) }

required_value : (ps : Params) (Has : (Label → Ground) → Ground → Type 0) → are_required ps ≡ true → IsValue (literal ps Has)
required_value ps Has h = record {
  lines = λ L. (
    λ k. (type_of ps k.0 k.1, sym k.2 ∙ line_is_value ps k.0 k.1 h, tt, (subst IsType (sym (ap (λ M. M.type) k.2)) k.3, (k.0, k.1, refl, k.4))),
    λ k. (k.3.1.0, k.3.1.1, line_is_value ps k.3.1.0 k.3.1.1 h ∙ ap value k.3.1.2 ∙ sym k.1, subst IsType (sym (ap (λ M. M.type) k.1)) k.3.0, k.3.1.3),
  );
  types = λ t k. k.0;
  others = λ b k. k;
}

pub called_as_value : (e : Tree) (S : Scope) → is_as_typed e ≡ true → IsValue (has e S)
called_as_value (tree place (fun ps lets e)) S h = required_value ps _ h
called_as_value (tree place (paren e)) S h = called_as_value e S h
called_as_value (tree place s) S h = value_answers (tree place s) S refl

-- what is said of each name

module _ (K : bounds.Bound → Env → Type 0) (s : Solution) where
  pub along_at : (ns : List Name) (i : ℕ) (n : Name) (env : Env) → i < length ns → n ≡ get_or ns i n → Along K s ns env → K n.bound (onto s (take i ns) env)
  along_at [] i n env lt at h = absurd (omega arith)
  along_at (m ∷ ns) zero n env lt at h = subst (λ k. K k.bound env) (sym at) h.0
  along_at (m ∷ ns) (suc i) n env lt at h = along_at ns i n (entry_under s m ∷ env) (omega arith) at h.1

  pub along_first : (ns : List Name) (i : ℕ) (env : Env) → Along K s ns env → Along K s (take i ns) env
  along_first ns zero env h = tt
  along_first [] (suc i) env h = tt
  along_first (m ∷ ns) (suc i) env h = (h.0, along_first ns i (entry_under s m ∷ env) h.1)

  pub along_last : (ns : List Name) (n : Name) (env : Env) → Along K s ns env → K n.bound (onto s ns env) → Along K s (ns ++ n ∷ []) env
  along_last [] n env h k = (k, tt)
  along_last (m ∷ ns) n env h k = (h.0, along_last ns n (entry_under s m ∷ env) h.1 k)

-- a name whose types were kept: its use, and its call
module _ (ns : List Name) (x y : Label) (s : Solution) (env : Env) (e : Tree) (answers : scope (env_under s ns) x ≡ answers_of (assigned y e) env) where
  pub kept_use : (v : Solved) → IsKeptOf env e v → (t : Ground) → (solved.HasInstance v t × IsType t) ↔ ShapeOf ns (name x) s t
  kept_use v kept t = (
    λ h. (h.1, subst (λ A. A (type_is t)) (sym answers) ((instance_is env e v kept t).0 h)),
    λ h. (instance_is env e v kept t).1 (subst (λ A. A (type_is t)) answers h.1),
  )

  pub kept_call : is_as_typed e ≡ true → IsValue (scope (env_under s ns) x)
  kept_call plain = subst IsValue (sym answers) (called_as_value e (scope env) plain)
