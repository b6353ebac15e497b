-- What speaks of no number from one on.
use Rattle.std.specs.Prelude.{ℕ, ◌+◌, ◌≤◌, List, [], ◌∷◌}
use Rattle.std.specs.Coded.{×_prop, Π_prop, Unit-prop, le_prop}
use Rattle.fx_types.specs.declared.term.Ty as types
use Rattle.fx_types.specs.Agree.{Agree}
use Rattle.fx_types.specs.Instance.{Solution}
use Rattle.fx_types.specs.Numbers.{numbers}
use Rattle.fx_types.specs.Shape.{term}
use Rattle.fx_types.proofs.GroundSet.{field_set}
use Rattle.fx_unify.specs.declared.bound.Bound as bounds
use Rattle.fx_unify.specs.declared.store.Store as stores
use Rattle.fx_unify.specs.declared.work.Pair as pairs
use Rattle.fx_unify.specs.Part.{part, as_part, value, Entries, Solved}
use Rattle.fx_unify.specs.Store.{entry}
use Rattle.fx_unify.specs.Work.{Hold, Holds}

abbrev pub BoundsBelow : ℕ → List bounds.Bound → Type 0
BoundsBelow n [] = Unit {0}
BoundsBelow n (b ∷ bs) = (b.var + 1 ≤ n) × BoundsBelow n bs

abbrev pub TermsBelow : ℕ → List types.Ty → Type 0
TermsBelow n [] = Unit {0}
TermsBelow n (t ∷ ts) = (numbers (term t) ≤ n) × TermsBelow n ts

-- what solutions give to the numbers from n on changes nothing of what is bound and left to solve,
-- and the bounds and the terms that are to be types have no such number
abbrev pub IsBelow : ℕ → stores.Store → List bounds.Bound → List types.Ty → Type 0
IsBelow n st bs ts = ((s q : Solution) → Agree n s q → Holds s st → Holds q st) × BoundsBelow n bs × TermsBelow n ts

-- there is at most one proof of it

solved_prop : (s : Solution) (e : Entries) → IsProp (Solved s e)
solved_prop s e = Π_prop (λ x. Π_prop (λ p. Π_prop (λ at. field_set (value s (as_part x)) (value s p))))

hold_prop : (s : Solution) (ps : List pairs.Pair) → IsProp (Hold s ps)
hold_prop s [] = Unit-prop
hold_prop s (p ∷ ps) = ×_prop (field_set (value s (part p.left)) (value s (part p.right))) (hold_prop s ps)

bounds_prop : (n : ℕ) (bs : List bounds.Bound) → IsProp (BoundsBelow n bs)
bounds_prop n [] = Unit-prop
bounds_prop n (b ∷ bs) = ×_prop le_prop (bounds_prop n bs)

terms_prop : (n : ℕ) (ts : List types.Ty) → IsProp (TermsBelow n ts)
terms_prop n [] = Unit-prop
terms_prop n (t ∷ ts) = ×_prop le_prop (terms_prop n ts)

moved_prop : (n : ℕ) (st : stores.Store) → IsProp ((s q : Solution) → Agree n s q → Holds s st → Holds q st)
moved_prop n st f g = λ i s q agree holds. ×_prop (solved_prop q (entry st)) (hold_prop q st.work.items) (f s q agree holds) (g s q agree holds) i

pub IsBelow-prop : (n : ℕ) (st : stores.Store) (bs : List bounds.Bound) (ts : List types.Ty) → IsProp (IsBelow n st bs ts)
IsBelow-prop n st bs ts x y = λ i. (moved_prop n st x.0 y.0 i, bounds_prop n bs x.1 y.1 i, terms_prop n ts x.2 y.2 i)
