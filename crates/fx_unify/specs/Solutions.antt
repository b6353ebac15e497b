-- The ground solutions of bindings: which types, fields and rows the variables may stand for.
use Rattle.std.specs.Prelude.{◌≡◌, ℕ, List, []}
use Rattle.fx_types.specs.declared.term.Ty as types
use Rattle.fx_types.specs.Agree.{Agree}
use Rattle.fx_types.specs.Instance.{Solution}
use Rattle.fx_unify.specs.declared.bindings.Bindings as declared
use Rattle.fx_unify.specs.declared.bound.Bound as bounds
use Rattle.fx_unify.specs.declared.store.Store as stores
use Rattle.fx_unify.specs.Bounds.{Keeps}
use Rattle.fx_unify.specs.Judge.{AreTypes}
use Rattle.fx_unify.specs.Plainest.{IsPlainest}
use Rattle.fx_unify.specs.Smaller.{IsSmaller}
use Rattle.fx_unify.specs.Work.{Holds, Within}

-- all that is bound holds, the bounds are kept, and what is to be a type is one
abbrev pub Meets : Solution → stores.Store → List bounds.Bound → List types.Ty → Type 0
Meets s st bs ts = Holds s st × Keeps s bs × AreTypes s ts

abbrev pub Solves : Solution → declared.Bindings → Type 0
Solves s b = Meets s b.store b.bounds.items b.also.items

-- no equation is left to solve, and there is a least solution: it is within the limit, each variable
-- that nothing is bound to stands for what is plainest, and no term is smaller under another solution
abbrev pub HasLeast : declared.Bindings → Type 0
HasLeast b = (s : Solution) × Solves s b × Within s × IsPlainest b.store b.bounds.items s × ((q : Solution) → Solves q b → IsSmaller s q) × (b.store.work.items ≡ [])

-- more than each number that is used
abbrev pub next_of : declared.Bindings → ℕ
next_of b = b.next

-- no solution is restricted at a number from the next one on
abbrev pub IsUnrestricted : declared.Bindings → Type 0
IsUnrestricted b = (s q : Solution) → Agree b.next s q → Solves s b → Solves q b
