-- How many nodes a part has in the least solution, and that it has no fewer in any other one. Here
-- `at` are the steps of the least solution, and `Among` says which solutions count.
use Rattle.std.specs.Prelude.{◌≡◌, ℕ, ◌≤◌, List, Result, Ok, Err, IsTrue}
use Rattle.fx_types.specs.Term.{Label}
use Rattle.fx_types.specs.Ground.{GroundField, GroundRow, is_plain, HasDefault, IsWellFormedField}
use Rattle.fx_types.specs.Instance.{Solution}
use Rattle.fx_types.specs.Size.{AreDistinct, total, Weighs}
use Rattle.fx_unify.specs.declared.fault.UnifyFault as faults
use Rattle.fx_unify.specs.declared.fault.UnifyFault.TheVariants as fault
use Rattle.fx_unify.specs.declared.sorts.Sorts as sorts
use Rattle.fx_unify.specs.declared.store.Store as stores
use Rattle.fx_unify.specs.Least.{steps}
use Rattle.fx_unify.specs.Part.{Solved}
use Rattle.fx_unify.specs.Sorts.{Allowed, plain_values}
use Rattle.fx_unify.specs.Store.{entry}

abbrev pub least : stores.Store → List sorts.Sorts → ℕ → Solution
least st ks = steps (entry st) (plain_values ks)

abbrev pub Admits : stores.Store → List sorts.Sorts → Solution → Type 0
Admits st ks s = Solved s (entry st) × Allowed s ks

-- from some step on it is g
abbrev pub Settles : (ℕ → Solution) → (Solution → GroundField) → GroundField → Type 0
Settles at f g = (k : ℕ) × ((n : ℕ) → k ≤ n → f (at n) ≡ g)

-- the field counts n in the least solution, and no less in any other; what a field counts is `Counts`
abbrev pub Measured : (ℕ → Solution) → (Solution → Type 0) → (GroundField → ℕ → Type 0) → (Solution → GroundField) → ℕ → Type 0
Measured at Among Counts f n =
    (g : GroundField) × Settles at f g × IsWellFormedField g × Counts g n × ((s : Solution) → Among s → (m : ℕ) → Counts (f s) m → n ≤ m)

-- Ok: it counts so many, and not more than there is room for. Clash: it does in no solution.
abbrev pub Measuring : Result ℕ faults.UnifyFault → (ℕ → Solution) → (Solution → Type 0) → (GroundField → ℕ → Type 0) → (Solution → GroundField) → ℕ → Type 0
Measuring (Ok n) at Among Counts f room = Measured at Among Counts f n × (n ≤ room)
Measuring (Err fault.Clash) at Among Counts f room = (s : Solution) → Among s → IsWellFormedField (f s) → Counts (f s) room → ⊥
Measuring (Err fault.Memory) at Among Counts f room = Unit {0}

-- whatever labels are taken, each once, they count at most n
abbrev pub Sums : (Label → ℕ) → ℕ → Type 0
Sums weight n = (ls : List Label) → AreDistinct ls → total weight ls ≤ n

abbrev pub IsPlainOff : GroundRow → Type 0
IsPlainOff r = (d : GroundField) × IsTrue (is_plain d) × HasDefault r d

-- the labels of the row count n together in the least solution, and no less in any other
abbrev pub RowMeasured : (ℕ → Solution) → (Solution → Type 0) → (Solution → GroundRow) → ℕ → Type 0
RowMeasured at Among f n =
    (r : GroundRow) × ((k : ℕ) × ((i : ℕ) → k ≤ i → (l : Label) → f (at i) l ≡ r l)) × IsPlainOff r × ((l : Label) → IsWellFormedField (r l))
    × ((weight : Label → ℕ) × ((l : Label) → Weighs (r l) (weight l)) × Sums weight n)
    × ((s : Solution) → Among s → (weight : Label → ℕ) → ((l : Label) → Weighs (f s l) (weight l)) → (m : ℕ) → Sums weight m → n ≤ m)

abbrev pub RowMeasuring : Result ℕ faults.UnifyFault → (ℕ → Solution) → (Solution → Type 0) → (Solution → GroundRow) → ℕ → Type 0
RowMeasuring (Ok n) at Among f room = RowMeasured at Among f n × (n ≤ room)
RowMeasuring (Err fault.Clash) at Among f room =
    (s : Solution) → Among s → IsPlainOff (f s) → ((l : Label) → IsWellFormedField (f s l)) → (weight : Label → ℕ) → ((l : Label) → Weighs (f s l) (weight l)) → Sums weight room → ⊥
RowMeasuring (Err fault.Memory) at Among f room = Unit {0}
