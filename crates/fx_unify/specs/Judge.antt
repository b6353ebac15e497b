-- Whether a solution within the limit is left that keeps the bounds and makes some terms types.
use Rattle.std.specs.Prelude.{ℕ, List, [], ◌∷◌, Result, Ok, Err}
use Rattle.fx_types.specs.declared.term.Ty as types
use Rattle.fx_types.specs.Ground.{g_is}
use Rattle.fx_types.specs.Instance.{Solution, ground}
use Rattle.fx_types.specs.Shape.{term}
use Rattle.fx_types.specs.Size.{IsType}
use Rattle.fx_unify.specs.declared.bound.Bound as bounds
use Rattle.fx_unify.specs.declared.fault.UnifyFault as faults
use Rattle.fx_unify.specs.declared.fault.UnifyFault.TheVariants as fault
use Rattle.fx_unify.specs.declared.sorts.Sorts as sorts
use Rattle.fx_unify.specs.declared.store.Store as stores
use Rattle.fx_unify.specs.Bounds.{Keeps}
use Rattle.fx_unify.specs.Decide.{Fixed}
use Rattle.fx_unify.specs.Measure.{least, Admits}
use Rattle.fx_unify.specs.Part.{Solved}
use Rattle.fx_unify.specs.Plainest.{IsPlainest}
use Rattle.fx_unify.specs.Smaller.{IsSmaller}
use Rattle.fx_unify.specs.Store.{entry}
use Rattle.fx_unify.specs.Work.{Within}

abbrev pub AreTypes : Solution → List types.Ty → Type 0
AreTypes s [] = Unit {0}
AreTypes s (t ∷ ts) = IsType (ground s (term t)) × AreTypes s ts

-- from step k on each term is one type
abbrev pub AreFixed : (ℕ → Solution) → List types.Ty → ℕ → Type 0
AreFixed at [] k = Unit {0}
AreFixed at (t ∷ ts) k = Fixed at (λ s. g_is (ground s (term t))) k × AreFixed at ts k

abbrev pub CheckingTerms : {A : Type 0} → Result A faults.UnifyFault → stores.Store → List sorts.Sorts → List types.Ty → Type 0
CheckingTerms (Ok a) st ks ts = (k : ℕ) × AreFixed (least st ks) ts k
CheckingTerms (Err fault.Clash) st ks ts = (s : Solution) → Admits st ks s → AreTypes s ts → ⊥
CheckingTerms (Err fault.Memory) st ks ts = Unit {0}

-- Ok: there is such a solution, the plainest, and no term is smaller under another. Clash: there is
-- none.
abbrev pub Judging : {A : Type 0} → Result A faults.UnifyFault → stores.Store → List bounds.Bound → List types.Ty → Type 0
Judging (Ok a) st bs ts =
    (s : Solution) × Solved s (entry st) × Keeps s bs × AreTypes s ts × Within s × IsPlainest st bs s
    × ((q : Solution) → Solved q (entry st) → Keeps q bs → IsSmaller s q)
Judging (Err fault.Clash) st bs ts = (s : Solution) → Solved s (entry st) → Keeps s bs → AreTypes s ts → Within s → ⊥
Judging (Err fault.Memory) st bs ts = Unit {0}
