-- What some labels of a row count together: those that were looked at.
use Rattle.std.specs.Prelude.{◌≡◌, ℕ, ◌≤◌, true, false, List, Result, Ok, Err, map}
use Rattle.fx_types.specs.Term.{Label}
use Rattle.fx_types.specs.declared.term.FieldTy.TheViews.{out-RowTy}
use Rattle.fx_types.specs.declared.term.LabelField as entries
use Rattle.fx_types.specs.declared.term.Rest as rests
use Rattle.fx_types.specs.declared.term.RowTy as rows
use Rattle.fx_types.specs.declared.term.LabelTy as labels
use Rattle.fx_types.specs.Ground.{GroundField, GroundRow, IsWellFormedField, listed}
use Rattle.fx_types.specs.Instance.{Solution}
use Rattle.fx_types.specs.Size.{AreDistinct, total}
use Rattle.fx_unify.specs.declared.fault.UnifyFault as faults
use Rattle.fx_unify.specs.declared.fault.UnifyFault.TheVariants as fault
use Rattle.fx_unify.specs.Measure.{Sums}

abbrev pub names : List entries.LabelField → List Label
names = map (λ e. e.label)

abbrev pub row_names : rows.RowTy → List Label
row_names r = names (out-RowTy r).fields

abbrev pub row_rest : rows.RowTy → rests.Rest
row_rest r = (out-RowTy r).rest

abbrev pub required_names : List labels.LabelTy → List Label
required_names = map (λ e. e.label)

-- the labels `seen` of the row count n together in the least solution, and no less in any other
abbrev pub Summed : (ℕ → Solution) → (Solution → Type 0) → (GroundField → ℕ → Type 0) → (Solution → GroundRow) → List Label → ℕ → Type 0
Summed at Among Counts f seen n =
    (r : GroundRow) × ((k : ℕ) × ((i : ℕ) → k ≤ i → (l : Label) → listed l seen ≡ true → f (at i) l ≡ r l)) × ((l : Label) → IsWellFormedField (r l))
    × ((weight : Label → ℕ) × ((l : Label) → listed l seen ≡ true → Counts (r l) (weight l)) × ((l : Label) → listed l seen ≡ false → weight l ≡ 0) × Sums weight n)
    × ((s : Solution) → Among s → (weight : Label → ℕ) → ((l : Label) → Counts (f s l) (weight l))
    → (ls : List Label) × AreDistinct ls × ((l : Label) → listed l seen ≡ false → listed l ls ≡ false) × (n ≤ total weight ls))

abbrev pub Summing : Result ℕ faults.UnifyFault → (ℕ → Solution) → (Solution → Type 0) → (GroundField → ℕ → Type 0) → (Solution → GroundRow) → List Label → ℕ → Type 0
Summing (Ok n) at Among Counts f seen room = Summed at Among Counts f seen n × (n ≤ room)
Summing (Err fault.Clash) at Among Counts f seen room =
    (s : Solution) → Among s → ((l : Label) → IsWellFormedField (f s l)) → (weight : Label → ℕ) → ((l : Label) → Counts (f s l) (weight l)) → Sums weight room → ⊥
Summing (Err fault.Memory) at Among Counts f seen room = Unit {0}
