-- Types that are kept with their conditions, and their instances.
use Rattle.std.specs.Prelude.{◌≡◌, ◌↔◌, ℕ, ◌+◌, ◌≤◌, ◌<◌, max, List, [], ◌∷◌}
use Rattle.fx_types.specs.declared.term.Ty as types
use Rattle.fx_types.specs.Ground.{Ground}
use Rattle.fx_types.specs.Instance.{Solution, ground}
use Rattle.fx_types.specs.Kinds.{IsAmong}
use Rattle.fx_types.specs.Numbers.{numbers}
use Rattle.fx_types.specs.Shape.{term}
use Rattle.fx_types.specs.Term.{Term}
use Rattle.fx_unify.specs.declared.bindings.Bindings as bindings
use Rattle.fx_unify.specs.Judge.{AreTypes}
use Rattle.fx_unify.specs.Solutions.{Solves}
use Rattle.fx_generalize.specs.declared.solved.Solved as declared
use Rattle.fx_generalize.specs.declared.solved.VarBound as bounds

-- each variable with a bound stands for one of its kinds, or for a duration where the bound allows it
abbrev pub KeepsKinds : Solution → List bounds.VarBound → Type 0
KeepsKinds s [] = Unit {0}
KeepsKinds s (b ∷ bs) = IsAmong b.kinds b.span (s.type_of b.var) × KeepsKinds s bs

-- the bounds are kept, and what is to be a type is one
abbrev pub Suits : declared.Solved → Solution → Type 0
Suits v s = KeepsKinds s v.bounds × AreTypes s v.also

abbrev pub HasInstance : declared.Solved → Ground → Type 0
HasInstance v g = (s : Solution) × Suits v s × (ground s (term v.ty) ≡ g)

abbrev pub numbers_terms : List types.Ty → ℕ
numbers_terms [] = 0
numbers_terms (t ∷ ts) = max (numbers (term t)) (numbers_terms ts)

abbrev pub numbers_bounds : List bounds.VarBound → ℕ
numbers_bounds [] = 0
numbers_bounds (b ∷ bs) = max (b.var + 1) (numbers_bounds bs)

abbrev pub AreAbove : ℕ → List bounds.VarBound → Type 0
AreAbove n [] = Unit {0}
AreAbove n (b ∷ bs) = (n < b.var) × AreAbove n bs

-- the bounds stand in the order of their variables, of which none has two
abbrev pub Ascend : List bounds.VarBound → Type 0
Ascend [] = Unit {0}
Ascend (b ∷ bs) = AreAbove b.var bs × Ascend bs

-- all variables are numbered below `vars`
abbrev pub IsNumbered : declared.Solved → Type 0
IsNumbered v = max (numbers (term v.ty)) (max (numbers_terms v.also) (numbers_bounds v.bounds)) ≤ v.vars

-- the term stands for the type under a solution of the bindings
abbrev pub HasType : bindings.Bindings → Term → Ground → Type 0
HasType b t g = (s : Solution) × Solves s b × (ground s t ≡ g)

-- the instances are exactly the types that the term stands for
abbrev pub IsSolvedOf : bindings.Bindings → Term → declared.Solved → Type 0
IsSolvedOf b t v = (g : Ground) → HasInstance v g ↔ HasType b t g
