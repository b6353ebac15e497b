-- A kept type at a use.
use Rattle.std.specs.Prelude.{◌≡◌, ℕ}
use Rattle.fx_types.specs.Agree.{Agree}
use Rattle.fx_types.specs.Ground.{Ground}
use Rattle.fx_types.specs.Instance.{Solution, ground}
use Rattle.fx_types.specs.Size.{IsType}
use Rattle.fx_types.specs.Term.{Term}
use Rattle.fx_unify.specs.declared.bindings.Bindings as bindings
use Rattle.fx_unify.specs.Solutions.{Solves}
use Rattle.fx_unify.specs.Work.{Within}

-- The term t of the new bindings stands for exactly the types of D: under each solution it is one of
-- them, and each solution of the old bindings leaves each of them to it, as long as the numbers from
-- m on are free to be chosen. Within the limit likewise, where it is a type.
pub record Used (D : Ground → Type 0) (old : bindings.Bindings) (m : ℕ) (new : bindings.Bindings) (t : Term) : Type 0 where
  pub keeps : (s : Solution) → Solves s new → Solves s old
  pub sound : (s : Solution) → Solves s new → D (ground s t)
  pub complete : (s : Solution) → Solves s old → (g : Ground) → D g → (q : Solution) × Agree m s q × Solves q new × (ground q t ≡ g)
  pub within : (s : Solution) → Solves s old → Within s → (g : Ground) → D g → IsType g → (q : Solution) × Agree m s q × Solves q new × Within q × (ground q t ≡ g)
