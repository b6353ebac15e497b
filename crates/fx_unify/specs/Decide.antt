-- Whether the least solution is one, and within the limit.
use Rattle.std.specs.Prelude.{◌≡◌, ℕ, ◌≤◌, List, Result, Ok, Err}
use Rattle.fx_types.specs.Term.{Label}
use Rattle.fx_types.specs.Ground.{GroundField, GroundRow}
use Rattle.fx_types.specs.Instance.{Solution}
use Rattle.fx_unify.specs.declared.fault.UnifyFault as faults
use Rattle.fx_unify.specs.declared.fault.UnifyFault.TheVariants as fault
use Rattle.fx_unify.specs.declared.sorts.Sorts as sorts
use Rattle.fx_unify.specs.declared.store.Store as stores
use Rattle.fx_unify.specs.Measure.{least, Admits}
use Rattle.fx_unify.specs.Part.{Solved}
use Rattle.fx_unify.specs.Store.{entry}
use Rattle.fx_unify.specs.Work.{IsField, IsRow, Within}

-- from step k on it is one field
abbrev pub Fixed : (ℕ → Solution) → (Solution → GroundField) → ℕ → Type 0
Fixed at f k = (g : GroundField) × ((n : ℕ) → k ≤ n → f (at n) ≡ g) × IsField g

-- from step k on it is one row
abbrev pub FixedRow : (ℕ → Solution) → (Solution → GroundRow) → ℕ → Type 0
FixedRow at f k = (r : GroundRow) × ((n : ℕ) → k ≤ n → (l : Label) → f (at n) l ≡ r l) × IsRow r

-- Ok: there is a step with P. Clash: no solution within the limit.
abbrev pub Checking : {A : Type 0} → Result A faults.UnifyFault → stores.Store → List sorts.Sorts → (ℕ → Type 0) → Type 0
Checking (Ok a) st ks P = (k : ℕ) × P k
Checking (Err fault.Clash) st ks P = (s : Solution) → Admits st ks s → Within s → ⊥
Checking (Err fault.Memory) st ks P = Unit {0}

-- from step k on all that is bound is solved, within the limit
abbrev pub IsLeast : stores.Store → List sorts.Sorts → ℕ → Type 0
IsLeast st ks k = (n : ℕ) → k ≤ n → Solved (least st ks n) (entry st) × Within (least st ks n)
