-- One equation after another, until none is left.
use Rattle.std.proofs.Common.{◌≡◌, ◌↔◌, refl, sym, ap, subst, ◌∙◌, List, [], ◌∷◌, ◌++◌, Result, Ok, Err}
use Rattle.fx_types.specs.Instance.{Solution}
use Rattle.fx_unify.specs.declared.fault.UnifyFault.{UnifyFault}
use Rattle.fx_unify.specs.declared.fault.UnifyFault.TheVariants as fault
use Rattle.fx_unify.specs.declared.sorts.Sorts as sorts
use Rattle.fx_unify.specs.declared.store.Store as stores
use Rattle.fx_unify.specs.declared.work.Pair as pairs
use Rattle.fx_unify.specs.Decide.{Checking, IsLeast}
use Rattle.fx_unify.specs.Part.{part, value, Solved}
use Rattle.fx_unify.specs.Sorts.{Allowed}
use Rattle.fx_unify.specs.Store.{entry}
use Rattle.fx_unify.specs.Work.{Hold, Holds, Within, Told, Refuses, Solving, nothing_more}
use Rattle.fx_unify.proofs.BoundLaws.{allowed_start}
use Rattle.fx_unify.proofs.SolvingLaws.{hold_more}

abbrev Equation : pairs.Pair → Solution → Type 0
Equation p s = value s (part p.left) ≡ value s (part p.right)

taken : (s : Solution) (whole left : List pairs.Pair) (p : pairs.Pair) → whole ≡ left ++ p ∷ [] → Hold s whole ↔ (Hold s left × Equation p s)
taken s whole left p e = subst (λ ps. Hold s ps ↔ (Hold s left × Equation p s)) (sym e) (hold_more s left p)

-- `now` is a store on the way from `start`; without its last equation it is `less`
module _ (start now less next : stores.Store) (p : pairs.Pair) (same : (s : Solution) → Solved s (entry less) ↔ Solved s (entry now)) (work : now.work.items ≡ less.work.items ++ p ∷ [])
    (on_way : (s : Solution) → Holds s now ↔ Holds s start) where
  apart : (s : Solution) → Holds s start ↔ (Holds s less × Equation p s)
  apart s =
      let t : Hold s now.work.items ↔ (Hold s less.work.items × Equation p s) = taken s now.work.items less.work.items p work in (
        λ h. (let n : Holds s now = (on_way s).1 h in (((same s).1 n.0, (t.0 n.1).0), (t.0 n.1).1)),
        λ k. (on_way s).0 ((same s).0 k.0.0, t.1 (k.0.1, k.1)),
      )

  pub gone_on : ((s : Solution) → Holds s next ↔ (Holds s less × Equation p s)) → (s : Solution) → Holds s next ↔ Holds s start
  gone_on h s = (λ k. (apart s).1 ((h s).0 k), λ k. (h s).1 ((apart s).0 k))

  pub given_up : (f : UnifyFault) → Solving {A = Unit {0}} (Err f) less next (Equation p) → Solving {A = Unit {0}} (Err f) start next nothing_more
  given_up fault.Clash h = λ s holds u within. h s ((apart s).0 holds).0 ((apart s).0 holds).1 within
  given_up fault.Memory h = tt

all_of : (ps : List pairs.Pair) → ps ++ [] ≡ ps
all_of [] = refl
all_of (p ∷ ps) = ap (λ qs. p ∷ qs) (all_of ps)

pub all_done : (start now less : stores.Store) → ((s : Solution) → Solved s (entry less) ↔ Solved s (entry now)) → now.work.items ≡ less.work.items ++ []
    → ((s : Solution) → Holds s now ↔ Holds s start) → (s : Solution) → Holds s less ↔ (Holds s start × nothing_more s)
all_done start now less same work h s =
    let e : now.work.items ≡ less.work.items = work ∙ all_of less.work.items in (
      λ k. ((h s).0 ((same s).0 k.0, subst (Hold s) (sym e) k.1), tt),
      λ k. (let n : Holds s now = (h s).1 k.0 in ((same s).1 n.0, subst (Hold s) e n.1)),
    )

-- what is bound has no solution within the limit, whatever is left to solve

pub looked : (st : stores.Store) (ks : List sorts.Sorts) (r : Result (Unit {0}) UnifyFault) → ks ≡ [] → Checking r st ks (IsLeast st ks) → Refuses r ((s : Solution) → Solved s (entry st) → Within s → ⊥)
looked st ks (Ok a) none h = tt
looked st ks (Err fault.Clash) none h = λ s solved within. h s (solved, subst (Allowed s) (sym none) (allowed_start s)) within
looked st ks (Err fault.Memory) none h = tt

pub look_refused : (start now : stores.Store) → ((s : Solution) → Holds s now ↔ Holds s start) → (f : UnifyFault) → Told f ((s : Solution) → Solved s (entry now) → Within s → ⊥)
    → Solving {A = Unit {0}} (Err f) start now nothing_more
look_refused start now on_way fault.Clash h = λ s holds more within. h s ((on_way s).1 holds).0 within
look_refused start now on_way fault.Memory h = tt
