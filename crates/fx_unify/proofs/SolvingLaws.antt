-- How answers to equations compose.
use Rattle.std.proofs.Common.{◌≡◌, ◌↔◌, sym, ap, ◌∙◌, List, [], ◌∷◌, ◌++◌, Result, Ok, Err}
use Rattle.fx_types.specs.Ground.{Ground, GroundField, g_absent, g_is}
use Rattle.fx_types.specs.Instance.{Solution}
use Rattle.fx_unify.specs.declared.fault.UnifyFault.{UnifyFault}
use Rattle.fx_unify.specs.declared.fault.UnifyFault.TheVariants as fault
use Rattle.fx_unify.specs.declared.store.Store as stores
use Rattle.fx_unify.specs.declared.work.Pair as pairs
use Rattle.fx_unify.specs.Part.{value, part, Solved}
use Rattle.fx_unify.specs.Store.{entry}
use Rattle.fx_unify.specs.Work.{Hold, Holds, Solving}

-- an equation that says the same has the same answer
pub restated : {A : Type 0} (r : Result A UnifyFault) (old new : stores.Store) (E F : Solution → Type 0) → ((s : Solution) → E s ↔ F s) → Solving r old new E → Solving r old new F
restated (Ok a) old new E F same h = λ s. (λ k. (((h s).0 k).0, (same s).0 ((h s).0 k).1), λ k. (h s).1 (k.0, (same s).1 k.1))
restated (Err fault.Clash) old new E F same h = λ s old_holds f within. h s old_holds ((same s).1 f) within
restated (Err fault.Memory) old new E F same h = tt

-- the same for an equation that says the same where all holds
pub restated_where : {A : Type 0} (r : Result A UnifyFault) (old new : stores.Store) (E F : Solution → Type 0) → ((s : Solution) → Holds s old → E s ↔ F s) → Solving r old new E → Solving r old new F
restated_where (Ok a) old new E F same h = λ s. (λ k. (let both : Holds s old × E s = (h s).0 k in (both.0, (same s both.0).0 both.1)), λ k. (h s).1 (k.0, (same s k.0).1 k.1))
restated_where (Err fault.Clash) old new E F same h = λ s old_holds f within. h s old_holds ((same s old_holds).1 f) within
restated_where (Err fault.Memory) old new E F same h = tt

-- one equation after another
pub after : {A : Type 0} (r : Result A UnifyFault) (old mid new : stores.Store) (E F : Solution → Type 0) → ((s : Solution) → Holds s mid ↔ (Holds s old × E s)) → Solving r mid new F
    → Solving r old new (λ s. E s × F s)
after (Ok a) old mid new E F first h =
    λ s. (
      λ k. (let both : Holds s mid × F s = (h s).0 k in let before : Holds s old × E s = (first s).0 both.0 in (before.0, (before.1, both.1))),
      λ k. (h s).1 ((first s).1 (k.0, k.1.0), k.1.1),
    )
after (Err fault.Clash) old mid new E F first h = λ s holds both within. h s ((first s).1 (holds, both.0)) both.1 within
after (Err fault.Memory) old mid new E F first h = tt

pub flipped : {A B : Type 0} {x y : GroundField} → A ↔ (B × (x ≡ y)) → A ↔ (B × (y ≡ x))
flipped h = (λ a. ((h.0 a).0, sym (h.0 a).1), λ k. h.1 (k.0, sym k.1))

-- the last equation of a list

pub hold_more : (s : Solution) (ps : List pairs.Pair) (p : pairs.Pair) → Hold s (ps ++ p ∷ []) ↔ (Hold s ps × (value s (part p.left) ≡ value s (part p.right)))
hold_more s [] p = (λ h. (tt, h.0), λ h. (h.1, tt))
hold_more s (q ∷ ps) p =
    let h : Hold s (ps ++ p ∷ []) ↔ (Hold s ps × (value s (part p.left) ≡ value s (part p.right))) = hold_more s ps p in
    (λ k. ((k.0, (h.0 k.1).0), (h.0 k.1).1), λ k. (k.0.0, h.1 (k.0.1, k.1)))

-- present types are equal where their fields are
present : Ground → GroundField → Ground
present d (g_is t) = t
present d g_absent = d

pub type_is : (t u : Ground) → (g_is t ≡ g_is u) ↔ (t ≡ u)
unfolding present
type_is t u = (λ e. ap (present t) e, λ e. ap g_is e)

pub twice : {A B C X Y : Type 0} → A ↔ (B × Y) → B ↔ (C × X) → A ↔ ((C × X) × Y)
twice h k = (λ a. (k.0 (h.0 a).0, (h.0 a).1), λ w. h.1 (k.1 w.0, w.1))

-- an equation between what two fields resolve to
pub resolved : {A : Type 0} (r : Result A UnifyFault) (old new : stores.Store) (x y z w : Solution → GroundField) → ((s : Solution) → Solved s (entry old) → x s ≡ z s)
    → ((s : Solution) → Solved s (entry old) → y s ≡ w s) → Solving r old new (λ s. x s ≡ y s) → Solving r old new (λ s. z s ≡ w s)
resolved r old new x y z w left right h =
    restated_where r old new (λ s. x s ≡ y s) (λ s. z s ≡ w s)
    (λ s holds. (λ e. sym (left s holds.0) ∙ e ∙ right s holds.0, λ e. left s holds.0 ∙ e ∙ sym (right s holds.0))) h
