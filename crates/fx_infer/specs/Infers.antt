-- What inference makes of a question: bindings under which it is answered, and what each solution of them gives.
use Rattle.std.specs.Prelude.{◌≡◌, ℕ, ◌≤◌}
use Rattle.fx_types.specs.Agree.{Agree}
use Rattle.fx_types.specs.Instance.{Solution, ground, ground_labels, ground_pipe}
use Rattle.fx_types.specs.Size.{IsType}
use Rattle.fx_types.specs.Term.{Term, Labels, Pipe}
use Rattle.fx_unify.specs.declared.bindings.Bindings.{Bindings}
use Rattle.fx_unify.specs.Solutions.{Solves, next_of}
use Rattle.fx_unify.specs.Work.{Within}

-- T says which results the question has under a solution, and `at` which of them was found. Under each solution of the
-- new bindings the one found is one of them, and each solution of the old ones leaves each of them to be found, as long
-- as the numbers that were drawn are free to be chosen.
pub record Infers {R : Type 0} (T : Solution → R → Type 0) (old new : Bindings) (at : Solution → R) : Type 0 where
  pub more : next_of old ≤ next_of new
  pub below : (s q : Solution) → Agree (next_of new) s q → at s ≡ at q
  pub keeps : (s : Solution) → Solves s new → Solves s old
  pub sound : (s : Solution) → Solves s new → T s (at s)
  pub complete : (s : Solution) → Solves s old → Within s → (r : R) → T s r
      → (q : Solution) × Agree (next_of old) s q × Solves q new × Within q × (at q ≡ r)

-- a question without a result
abbrev pub Asks : (Solution → Type 0) → Bindings → Bindings → Type 0
Asks C old new = Infers {R = Unit {0}} (λ s u. C s) old new (λ s. tt)

-- under no solution does the question have a result
abbrev pub HasNone : {R : Type 0} → (Solution → R → Type 0) → Bindings → Type 0
HasNone {R = R} T old = (s : Solution) → Solves s old → Within s → (r : R) → T s r → ⊥

-- what the term stands for is told by the numbers below n
abbrev pub IsBelow : ℕ → Term → Type 0
IsBelow n t = (s q : Solution) → Agree n s q → ground s t ≡ ground q t

-- the same of what a call gives
abbrev pub AreBelow : ℕ → Labels → Pipe → Type 0
AreBelow n ls p = (s q : Solution) → Agree n s q → (ground_labels s ls ≡ ground_labels q ls) × (ground_pipe s p ≡ ground_pipe q p)

-- the term stands for types
abbrev pub IsTypedIn : Bindings → Term → Type 0
IsTypedIn b t = (s : Solution) → Solves s b → IsType (ground s t)
