-- The equations that are left to solve, and what a refusal says.
use Rattle.std.specs.Prelude.{◌≡◌, ℕ, List, [], ◌∷◌, Result, Ok, Err, ◌↔◌, IsTrue}
use Rattle.fx_types.specs.Ground.{GroundField, GroundRow, is_plain, HasDefault, IsWellFormedField}
use Rattle.fx_types.specs.Instance.{Solution}
use Rattle.fx_types.specs.Size.{IsType, Pipes}
use Rattle.fx_types.specs.Term.{Label}
use Rattle.fx_unify.specs.declared.work.Pair as pairs
use Rattle.fx_unify.specs.declared.store.Store as stores
use Rattle.fx_unify.specs.declared.fault.UnifyFault as faults
use Rattle.fx_unify.specs.declared.fault.UnifyFault.TheVariants as fault
use Rattle.fx_unify.specs.Part.{part, value, Solved}
use Rattle.fx_unify.specs.Store.{entry}

abbrev pub Hold : Solution → List pairs.Pair → Type 0
Hold s [] = Unit {0}
Hold s (p ∷ ps) = (value s (part p.left) ≡ value s (part p.right)) × Hold s ps

-- all that is bound and all that is left to solve
abbrev pub Holds : Solution → stores.Store → Type 0
Holds s st = Solved s (entry st) × Hold s st.work.items

-- Absent or a type
abbrev pub IsField : GroundField → Type 0
IsField g = IsWellFormedField g × Pipes g 4096

-- all labels but finitely many have one plain field, and each has a field
abbrev pub IsRow : GroundRow → Type 0
IsRow r = ((d : GroundField) × IsTrue (is_plain d) × HasDefault r d) × ((l : Label) → IsField (r l))

-- what the solution gives the variables are types, fields and rows: none has a type of more than
-- 4,096 nodes in it
abbrev pub Within : Solution → Type 0
Within s = ((n : ℕ) → IsType (s.type_of n)) × ((n : ℕ) → IsField (s.field_of n)) × ((n : ℕ) → IsRow (s.row_of n))

-- The answer to an equation E. Ok: all holds as before, and E. Clash: no solution within the limit
-- is left.
abbrev pub Solving : {A : Type 0} → Result A faults.UnifyFault → stores.Store → stores.Store → (Solution → Type 0) → Type 0
Solving (Ok a) old new E = (s : Solution) → Holds s new ↔ (Holds s old × E s)
Solving (Err fault.Clash) old new E = (s : Solution) → Holds s old → E s → Within s → ⊥
Solving (Err fault.Memory) old new E = Unit {0}

-- no equation beside those that are left to solve
abbrev pub nothing_more : Solution → Type 0
nothing_more s = Unit {0}

-- what a Clash says
abbrev pub Told : faults.UnifyFault → Type 0 → Type 0
Told fault.Clash P = P
Told fault.Memory P = Unit {0}

abbrev pub Refuses : {A : Type 0} → Result A faults.UnifyFault → Type 0 → Type 0
Refuses (Ok a) P = Unit {0}
Refuses (Err f) P = Told f P
