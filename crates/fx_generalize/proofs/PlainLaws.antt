-- A solution of a kept type can be made plain wherever the type doesn't show it, and is within the limit then.
use Rattle.std.proofs.Common.{◌≡◌, inl, refl, sym, subst, ℕ, Bool, true, false, ◌||◌, ◌==◌, eq-eqb, eqb-true, List, [], ◌∷◌}
use mathlib.Core.Bool.{true≢false}
use Rattle.fx_types.specs.declared.term.Ty.{Ty}
use Rattle.fx_types.specs.Ground.{Ground, g_is}
use Rattle.fx_types.specs.Instance.{Solution, ground}
use Rattle.fx_types.specs.Kinds.{IsAmong}
use Rattle.fx_types.specs.Shape.{term}
use Rattle.fx_types.specs.Size.{IsType}
use Rattle.fx_types.proofs.PartLaws.{IsTypeField}
use Rattle.fx_unify.specs.Judge.{AreTypes}
use Rattle.fx_unify.specs.Part.{Variable, type_node, field_node, slot_node, as_part, value}
use Rattle.fx_unify.specs.Seen.{sees, kept_at}
use Rattle.fx_unify.specs.Work.{Within}
use Rattle.fx_unify.proofs.SeenLaws.{or_left, or_right, split, same_term, seen_part, Rest, rest_or, rest_term, AllSeen, kept_within, kept_value}
use Rattle.fx_unify.proofs.WithinLaws.{scalar_type}
use Rattle.fx_generalize.specs.declared.solved.Solved.{Solved}
use Rattle.fx_generalize.specs.declared.solved.VarBound.{VarBound}
use Rattle.fx_generalize.specs.Solved.{KeepsKinds, Suits}

-- the variables that terms show, and those with a bound

abbrev is_shown : Variable → List Ty → Bool
is_shown v [] = false
is_shown v (t ∷ ts) = sees v (term t) || is_shown v ts

abbrev is_bound : Variable → List VarBound → Bool
is_bound (type_node n) [] = false
is_bound (type_node n) (b ∷ bs) = (n == b.var) || is_bound (type_node n) bs
is_bound _ bs = false

abbrev is_kept : Solved → Variable → Bool
is_kept v x = is_shown x (v.ty ∷ v.also) || is_bound x v.bounds

-- what they stand for are types

shown_type : (s : Solution) (ts : List Ty) → AreTypes s ts → (x : Variable) → is_shown x ts ≡ true → IsTypeField (value s (as_part x))
shown_type s [] h x e = absurd (true≢false (sym e))
shown_type s (t ∷ ts) h x e = split (sees x (term t)) (is_shown x ts) e (λ d. seen_part s (term t) h.0 x d) (λ d. shown_type s ts h.1 x d)

shown_rest : (s : Solution) (r : ℕ) (ts : List Ty) → AreTypes s ts → Rest s r (λ l. is_shown (slot_node r l) ts)
shown_rest s r [] h = inl (λ l. refl)
shown_rest s r (t ∷ ts) h = rest_or s r (λ l. sees (slot_node r l) (term t)) (λ l. is_shown (slot_node r l) ts) (rest_term s r (term t) h.0) (shown_rest s r ts h.1)

bound_type : (s : Solution) (bs : List VarBound) → KeepsKinds s bs → (x : Variable) → is_bound x bs ≡ true → IsTypeField (value s (as_part x))
bound_type s [] h (type_node n) e = absurd (true≢false (sym e))
bound_type s (b ∷ bs) h (type_node n) e =
    split (n == b.var) (is_bound (type_node n) bs) e (λ d. subst (λ m. IsType (s.type_of m)) (sym (eqb-true n b.var d)) (scalar_type b.kinds b.span (s.type_of b.var) h.0))
    (λ d. bound_type s bs h.1 (type_node n) d)
bound_type s bs h (field_node n) e = absurd (true≢false (sym e))
bound_type s bs h (slot_node r l) e = absurd (true≢false (sym e))

-- solutions that agree at them suit alike

module _ (test : Variable → Bool) (s : Solution) where
  same_types : (ts : List Ty) → ((x : Variable) → is_shown x ts ≡ true → test x ≡ true) → AreTypes s ts → AreTypes (kept_at test s) ts
  same_types [] more h = tt
  same_types (t ∷ ts) more h = (
    subst IsType (sym (same_term (kept_at test s) s (term t) (λ x e. kept_value test s x (more x (or_left (sees x (term t)) (is_shown x ts) e))))) h.0,
    same_types ts (λ x e. more x (or_right (sees x (term t)) (is_shown x ts) e)) h.1,
  )

  same_type : (n : ℕ) → test (type_node n) ≡ true → (kept_at test s).type_of n ≡ s.type_of n
  same_type n e = let is : g_is ((kept_at test s).type_of n) ≡ g_is (s.type_of n) = kept_value test s (type_node n) e in one_type ((kept_at test s).type_of n) (s.type_of n) is
    where
      one_type : (t u : Ground) → g_is t ≡ g_is u → t ≡ u
      one_type t u e = cc

  same_kinds : (bs : List VarBound) → ((x : Variable) → is_bound x bs ≡ true → test x ≡ true) → KeepsKinds s bs → KeepsKinds (kept_at test s) bs
  same_kinds [] more h = tt
  same_kinds (b ∷ bs) more h = (
    subst (IsAmong b.kinds b.span) (sym (same_type b.var (more (type_node b.var) (or_left (b.var == b.var) (is_bound (type_node b.var) bs) (eq-eqb b.var b.var refl))))) h.0,
    same_kinds bs later h.1,
  )
    where
      later : (x : Variable) → is_bound x bs ≡ true → test x ≡ true
      later (type_node n) e = more (type_node n) (or_right (n == b.var) (is_bound (type_node n) bs) e)
      later (field_node n) e = absurd (true≢false (sym e))
      later (slot_node r l) e = absurd (true≢false (sym e))

-- where the type of a solution is one, another solution within the limit gives it too
pub plain_solution : (v : Solved) (w : Solution) → Suits v w → IsType (ground w (term v.ty)) → (q : Solution) × Within q × Suits v q × (ground q (term v.ty) ≡ ground w (term v.ty))
plain_solution v w suits type = (
  kept_at (is_kept v) w,
  kept_within (is_kept v) w all,
  (same_kinds (is_kept v) w v.bounds (λ x e. or_right (is_shown x (v.ty ∷ v.also)) (is_bound x v.bounds) e) suits.0, same_types (is_kept v) w v.also also suits.1),
  same_term (kept_at (is_kept v) w) w (term v.ty) (λ x e. kept_value (is_kept v) w x (or_left (is_shown x (v.ty ∷ v.also)) (is_bound x v.bounds) (or_left (sees x (term v.ty)) (is_shown x v.also) e))),
)
  where
    types : AreTypes w (v.ty ∷ v.also)
    types = (type, suits.1)

    also : (x : Variable) → is_shown x v.also ≡ true → is_kept v x ≡ true
    also x e = or_left (is_shown x (v.ty ∷ v.also)) (is_bound x v.bounds) (or_right (sees x (term v.ty)) (is_shown x v.also) e)

    no_bound : (r : ℕ) → Rest w r (λ l. is_bound (slot_node r l) v.bounds)
    no_bound r = inl (λ l. refl)

    all : AllSeen (is_kept v) w
    all = (
      λ x e. split (is_shown x (v.ty ∷ v.also)) (is_bound x v.bounds) e (λ d. shown_type w (v.ty ∷ v.also) types x d) (λ d. bound_type w v.bounds suits.0 x d),
      λ r. rest_or w r (λ l. is_shown (slot_node r l) (v.ty ∷ v.also)) (λ l. is_bound (slot_node r l) v.bounds) (shown_rest w r (v.ty ∷ v.also) types) (no_bound r),
    )
