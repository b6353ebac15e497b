-- What is asked of bindings, as inference.
use Rattle.std.proofs.Common.{◌≡◌, ◌↔◌, refl, sym, ap, subst, ◌∙◌, ℕ, ◌≤◌, ◌+◌, max, Bool, false, List, Result, Ok, Err, IfOk, arith}
use Rattle.fx_types.specs.Agree.{Agree}
use Rattle.fx_types.specs.Ground.{Ground, g_bool, g_text, g_pattern}
use Rattle.fx_types.specs.Instance.{Solution, ground}
use Rattle.fx_types.specs.Kinds.{IsAmong}
use Rattle.fx_types.specs.Numbers.{numbers}
use Rattle.fx_types.specs.Shape.{term}
use Rattle.fx_types.specs.Size.{IsType}
use Rattle.fx_types.specs.Term.{Term}
use Rattle.fx_types.specs.declared.term.Ty.{Ty}
use Rattle.fx_types.specs.declared.term.Ty.TheVariants as ty
use Rattle.fx_types.proofs.ShapeLaws.{term_bool, term_text, term_pattern, term_variable}
use Rattle.fx_value.specs.declared.scalar.Kind.{Kind}
use Rattle.fx_unify.specs.declared.bindings.Bindings.{Bindings}
use Rattle.fx_unify.specs.Solutions.{Solves, next_of}
use Rattle.fx_unify.specs.Work.{Within}
use Rattle.fx_unify.proofs.AskLaws.{unrestricted}
use Rattle.fx_unify.proofs.WithinLaws.{scalar_type}
use Rattle.fx_infer.specs.Infers.{Infers, Asks, IsBelow}
use Rattle.fx_infer.specs.Operators.{Keeps, Tells, Matches}
use Rattle.fx_infer.proofs.FreshLaws.{with_type, there, type_agrees, type_within, fresh_type}
use Rattle.fx_infer.proofs.InfersLaws.{asked, both, seen_as}

-- a term that is one of the kinds: a new variable is that term, and is bound to the kinds
pub among_asked : (C : Ground → Type 0) (old mid new : Bindings) (n : ℕ) (t : Term) → ((g : Ground) → C g → IsType g) → n ≡ next_of old → next_of old ≤ next_of new → IsBelow (next_of old) t
    → ((s : Solution) → Solves s mid ↔ (Solves s old × (s.type_of n ≡ ground s t))) → ((s : Solution) → Solves s new ↔ (Solves s mid × C (s.type_of n)))
    → Asks (λ s. C (ground s t)) old new
among_asked C old mid new n t types first le below tied bound = record {
  more = le;
  below = λ s q agree. refl;
  keeps = λ s h. ((tied s).0 ((bound s).0 h).0).0;
  sound = λ s h. subst C ((tied s).0 ((bound s).0 h).0).1 ((bound s).0 h).1;
  complete = complete;
}
  where
    complete : (s : Solution) → Solves s old → Within s → (r : Unit {0}) → C (ground s t) → (q : Solution) × Agree (next_of old) s q × Solves q new × Within q × (tt ≡ r)
    complete s h within r c =
        let g : Ground = ground s t in
        let agree : Agree (next_of old) s (with_type n g s) = subst (λ m. Agree m s (with_type n g s)) first (type_agrees n g s) in
        let still : Solves (with_type n g s) old = unrestricted old s (with_type n g s) agree h in
        let found : (with_type n g s).type_of n ≡ g = there n g s.type_of in (
          with_type n g s,
          agree,
          (bound (with_type n g s)).1 ((tied (with_type n g s)).1 (still, found ∙ below s (with_type n g s) agree), subst C (sym found) c),
          type_within n g s (types g c) within,
          refl,
        )

-- what the calls give

pub equal_result : {E : Type 0} (C : Solution → Type 0) (old : Bindings) (n : ℕ) (r : Result Bindings E) → IfOk r (λ b. (s : Solution) → Solves s b ↔ (Solves s old × C s))
    → IfOk r (λ b. next_of b ≡ max (next_of old) n) → IfOk r (Asks C old)
equal_result C old n (Ok b) ok next = asked C old b (let e : next_of b ≡ max (next_of old) n = next in omega arith) ok
equal_result C old n (Err e) ok next = tt

pub among_result : {E : Type 0} (ks js : List Kind) (span : Bool) (old mid : Bindings) (n m : ℕ) (u : Ty) (r : Result Bindings E) → js ≡ ks → n ≡ next_of old → IsBelow (next_of old) (term u)
    → ((s : Solution) → Solves s mid ↔ (Solves s old × (ground s (term (ty.Var n)) ≡ ground s (term u)))) → next_of mid ≡ max (next_of old) m
    → IfOk r (λ b. (s : Solution) → Solves s b ↔ (Solves s mid × IsAmong js span (s.type_of n))) → IfOk r (λ b. next_of b ≡ max (next_of mid) (n + 1))
    → IfOk r (Asks (λ s. IsAmong ks span (ground s (term u))) old)
among_result ks js span old mid n m u (Err e) list first below tied grown ok next = tt
among_result ks js span old mid n m u (Ok b) list first below tied grown ok next =
    let e : next_of b ≡ max (next_of mid) (n + 1) = next in
    among_asked (IsAmong ks span) old mid b n (term u) (scalar_type ks span) first (omega arith) below
    (subst (λ v. (s : Solution) → Solves s mid ↔ (Solves s old × (ground s v ≡ ground s (term u)))) (term_variable n) tied)
    (subst (λ xs. (s : Solution) → Solves s b ↔ (Solves s mid × IsAmong xs span (s.type_of n))) list ok)

pub any_type_asked : (old new : Bindings) (n : ℕ) → n ≡ next_of old → ((s : Solution) → Solves s new ↔ (Solves s old × IsType (ground s (term (ty.Var n)))))
    → next_of new ≡ max (next_of old) (numbers (term (ty.Var n))) → Infers (λ s t. IsType t) old new (λ s. ground s (term (ty.Var n)))
any_type_asked old new n first is next =
    let more : next_of new ≡ max (next_of old) (n + 1) = next ∙ ap (λ v. max (next_of old) (numbers v)) (term_variable n) in
    subst (λ v. Infers (λ s t. IsType t) old new (λ s. ground s v)) (sym (term_variable n))
    (fresh_type old new n first (omega arith) (omega arith) (subst (λ v. (s : Solution) → Solves s new ↔ (Solves s old × IsType (ground s v))) (term_variable n) is))

-- operators of two operands

module _ (ks : List Kind) (span : Bool) (old mid new : Bindings) (left right : Term) (below : IsBelow (next_of old) left) (other : IsBelow (next_of old) right)
    (among : Asks (λ s. IsAmong ks span (ground s left)) old mid) (same : Asks (λ s. ground s right ≡ ground s left) mid new) where
  both_asked : Infers {R = Unit {0} × Unit {0}} (λ s x. IsAmong ks span (ground s left) × (ground s right ≡ ground s left)) old new (λ s. (tt, tt))
  both_asked =
      both (λ s u. IsAmong ks span (ground s left)) (λ r s p. ground s right ≡ ground s left) old mid new (λ s. tt) (λ s. tt) among same
      (λ r s q agree p e. sym (other s q agree) ∙ e ∙ below s q agree)

  pub tells_asked : Infers (λ s t. Tells ks span (ground s left) (ground s right) t) old new (λ s. ground s (term ty.Bool))
  tells_asked = subst (λ v. Infers (λ s t. Tells ks span (ground s left) (ground s right) t) old new (λ s. ground s v)) (sym term_bool)
      (seen_as (λ s x. IsAmong ks span (ground s left) × (ground s right ≡ ground s left)) (λ s t. Tells ks span (ground s left) (ground s right) t) (λ s x. g_bool) old new (λ s. (tt, tt)) both_asked
      (λ s q agree r. refl) (λ s r h. (h.0, h.1, refl)) (λ s p h. ((tt, tt), (h.0, h.1), sym h.2)))

module _ (ks : List Kind) (old mid new : Bindings) (left right result : Ty) (is : result ≡ left) (below : IsBelow (next_of old) (term left)) (other : IsBelow (next_of old) (term right))
    (among : Asks (λ s. IsAmong ks false (ground s (term left))) old mid) (same : Asks (λ s. ground s (term right) ≡ ground s (term left)) mid new) where
  pub keeps_asked : Infers (λ s t. Keeps ks (ground s (term left)) (ground s (term right)) t) old new (λ s. ground s (term result))
  keeps_asked = subst (λ v. Infers (λ s t. Keeps ks (ground s (term left)) (ground s (term right)) t) old new (λ s. ground s (term v))) (sym is)
      (seen_as (λ s x. IsAmong ks false (ground s (term left)) × (ground s (term right) ≡ ground s (term left))) (λ s t. Keeps ks (ground s (term left)) (ground s (term right)) t) (λ s x. ground s (term left)) old new (λ s. (tt, tt))
      (both_asked ks false old mid new (term left) (term right) below other among same) (λ s q agree r. below s q agree) (λ s r h. (h.0, h.1, refl)) (λ s p h. ((tt, tt), (h.0, h.1), sym h.2)))

-- a text, and a regular expression
module _ (old mid new : Bindings) (left right : Term) (other : IsBelow (next_of old) right)
    (texts : Asks (λ s. ground s left ≡ ground s (term ty.Text)) old mid) (patterns : Asks (λ s. ground s right ≡ ground s (term ty.Pattern)) mid new) where
  pub matches_asked : Infers (λ s t. Matches (ground s left) (ground s right) t) old new (λ s. ground s (term ty.Bool))
  matches_asked = subst (λ v. Infers (λ s t. Matches (ground s left) (ground s right) t) old new (λ s. ground s v)) (sym term_bool)
      (seen_as (λ s x. (ground s left ≡ g_text) × (ground s right ≡ g_pattern)) (λ s t. Matches (ground s left) (ground s right) t) (λ s x. g_bool) old new (λ s. (tt, tt))
      (both (λ s u. ground s left ≡ g_text) (λ r s p. ground s right ≡ g_pattern) old mid new (λ s. tt) (λ s. tt)
      (subst (λ v. Asks (λ s. ground s left ≡ ground s v) old mid) term_text texts) (subst (λ v. Asks (λ s. ground s right ≡ ground s v) mid new) term_pattern patterns)
      (λ r s q agree p e. sym (other s q agree) ∙ e))
      (λ s q agree r. refl) (λ s r h. (h.0, h.1, refl)) (λ s p h. ((tt, tt), (h.0, h.1), sym h.2)))

-- operators of one operand

pub signed_asked : (ks : List Kind) (span : Bool) (old new : Bindings) (of result : Ty) → result ≡ of → IsBelow (next_of old) (term of) → Asks (λ s. IsAmong ks span (ground s (term of))) old new
    → Infers (λ s t. IsAmong ks span (ground s (term of)) × (t ≡ ground s (term of))) old new (λ s. ground s (term result))
signed_asked ks span old new of result is below among =
    subst (λ v. Infers (λ s t. IsAmong ks span (ground s (term of)) × (t ≡ ground s (term of))) old new (λ s. ground s (term v))) (sym is)
    (seen_as (λ s u. IsAmong ks span (ground s (term of))) (λ s t. IsAmong ks span (ground s (term of)) × (t ≡ ground s (term of))) (λ s x. ground s (term of)) old new (λ s. tt) among
    (λ s q agree r. below s q agree) (λ s r h. (h, refl)) (λ s p h. (tt, h.0, sym h.1)))

pub told_asked : (ks : List Kind) (span : Bool) (old new : Bindings) (of : Term) → Asks (λ s. IsAmong ks span (ground s of)) old new
    → Infers (λ s t. IsAmong ks span (ground s of) × (t ≡ g_bool)) old new (λ s. ground s (term ty.Bool))
told_asked ks span old new of among = subst (λ v. Infers (λ s t. IsAmong ks span (ground s of) × (t ≡ g_bool)) old new (λ s. ground s v)) (sym term_bool)
    (seen_as (λ s u. IsAmong ks span (ground s of)) (λ s t. IsAmong ks span (ground s of) × (t ≡ g_bool)) (λ s x. g_bool) old new (λ s. tt) among
    (λ s q agree r. refl) (λ s r h. (h, refl)) (λ s p h. (tt, h.0, sym h.1)))
