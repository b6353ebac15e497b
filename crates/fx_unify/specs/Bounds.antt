-- Bounds on type variables, and what they leave to the free ones.
use Rattle.std.specs.Prelude.{◌≡◌, ◌≢◌, ◌⊎◌, ◌&&◌, ℕ, true, false, List, [], ◌∷◌, None, Result, Ok, Err}
use Rattle.fx_types.specs.Ground.{Ground, g_int, g_pattern}
use Rattle.fx_types.specs.Instance.{Solution}
use Rattle.fx_unify.specs.declared.bound.Bound as bounds
use Rattle.fx_unify.specs.declared.fault.UnifyFault as faults
use Rattle.fx_unify.specs.declared.fault.UnifyFault.TheVariants as fault
use Rattle.fx_unify.specs.declared.sorts.Sorts as sorts
use Rattle.fx_unify.specs.declared.store.Store as stores
use Rattle.fx_unify.specs.Measure.{least}
use Rattle.fx_unify.specs.Part.{Solved, type_node}
use Rattle.fx_unify.specs.Sorts.{allows, plainest_of, set_at, Allowed}
use Rattle.fx_unify.specs.Store.{entry}

-- each bounded variable has one of its types
abbrev pub Keeps : Solution → List bounds.Bound → Type 0
Keeps s [] = Unit {0}
Keeps s (b ∷ bs) = (allows b.sorts (s.type_of b.var) ≡ true) × Keeps s bs

abbrev pub Inside : sorts.Sorts → sorts.Sorts → Type 0
Inside k j = (g : Ground) → allows k g ≡ true → allows j g ≡ true

-- no variable is left without a type
abbrev pub AreSome : List sorts.Sorts → Type 0
AreSome ks = (n : ℕ) → allows (set_at ks n) (plainest_of (set_at ks n)) ≡ true

-- where types that are no scalars are left, all are
abbrev pub AreScalar : List sorts.Sorts → Type 0
AreScalar ks = (n : ℕ) → allows (set_at ks n) g_pattern ≡ true → allows (set_at ks n) g_int ≡ true

-- the bound holds in all solutions, or what is left to the free variable behind it lies within
abbrev pub Met : stores.Store → List sorts.Sorts → bounds.Bound → Type 0
Met st ks b =
    ((s : Solution) → Solved s (entry st) → allows b.sorts (s.type_of b.var) ≡ true)
    ⊎ ((m : ℕ) × (entry st (type_node m) ≡ None) × ((s : Solution) → Solved s (entry st) → s.type_of b.var ≡ s.type_of m) × Inside (set_at ks m) b.sorts)

abbrev pub AllMet : stores.Store → List sorts.Sorts → List bounds.Bound → Type 0
AllMet st ks [] = Unit {0}
AllMet st ks (b ∷ bs) = Met st ks b × AllMet st ks bs

-- solutions that keep the bounds have types of these sets, and the least one keeps the bounds
abbrev pub Narrowed : stores.Store → List sorts.Sorts → List bounds.Bound → Type 0
Narrowed st ks bs =
    ((s : Solution) → Solved s (entry st) → Keeps s bs → Allowed s ks) × ((k : ℕ) → Solved (least st ks k) (entry st) → Keeps (least st ks k) bs)
    × AreSome ks × AreScalar ks

-- What one bound more leaves. Clash: no solution keeps it.
abbrev pub NarrowingBy : {A : Type 0} → Result A faults.UnifyFault → stores.Store → List sorts.Sorts → List sorts.Sorts → bounds.Bound → Type 0
NarrowingBy (Ok a) st old new b =
    ((s : Solution) → Solved s (entry st) → allows b.sorts (s.type_of b.var) ≡ true → Allowed s old → Allowed s new) × Met st new b
    × ((n : ℕ) → Inside (set_at new n) (set_at old n)) × (AreSome old → AreSome new) × (AreScalar old → AreScalar new)
NarrowingBy (Err fault.Clash) st old new b = (s : Solution) → Solved s (entry st) → allows b.sorts (s.type_of b.var) ≡ true → Allowed s old → ⊥
NarrowingBy (Err fault.Memory) st old new b = Unit {0}

-- the same for one free variable
abbrev pub NarrowingAt : {A : Type 0} → Result A faults.UnifyFault → List sorts.Sorts → List sorts.Sorts → ℕ → sorts.Sorts → Type 0
NarrowingAt (Ok a) old new n k =
    ((m : ℕ) → m ≢ n → set_at new m ≡ set_at old m) × ((g : Ground) → allows (set_at new n) g ≡ (allows (set_at old n) g && allows k g))
    × (allows (set_at new n) (plainest_of (set_at new n)) ≡ true)
NarrowingAt (Err fault.Clash) old new n k = (g : Ground) → (allows (set_at old n) g && allows k g) ≡ false
NarrowingAt (Err fault.Memory) old new n k = Unit {0}
