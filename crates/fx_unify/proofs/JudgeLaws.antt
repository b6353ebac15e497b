-- Whether a solution is left, put together.
use Rattle.std.proofs.Common.{◌≡◌, sym, ap, subst, ◌∙◌, ℕ, zero, suc, ◌+◌, ◌<◌, ◌≤◌, List, [], ◌∷◌, ◌++◌, take, get_or, length, Result, Ok, Err, arith}
use Rattle.std.proofs.lemmas.List.{take_more}
use Rattle.fx_types.specs.declared.term.Ty.{Ty}
use Rattle.fx_types.specs.Ground.{g_is}
use Rattle.fx_types.specs.Instance.{Solution, ground}
use Rattle.fx_types.specs.Shape.{term}
use Rattle.fx_types.specs.Size.{Pipes, IsType}
use Rattle.fx_unify.specs.declared.bound.Bound as bounds
use Rattle.fx_unify.specs.declared.fault.UnifyFault.{UnifyFault}
use Rattle.fx_unify.specs.declared.fault.UnifyFault.TheVariants as fault
use Rattle.fx_unify.specs.declared.sorts.Sorts as sorts
use Rattle.fx_unify.specs.declared.store.Store as stores
use Rattle.fx_unify.specs.Bounds.{Keeps, Narrowed}
use Rattle.fx_unify.specs.Decide.{Fixed, Checking, IsLeast}
use Rattle.fx_unify.specs.Judge.{AreTypes, AreFixed, CheckingTerms, Judging}
use Rattle.fx_unify.specs.Measure.{least, Admits, Measuring}
use Rattle.fx_unify.specs.Part.{Solved}
use Rattle.fx_unify.specs.Store.{entry}
use Rattle.fx_unify.specs.Work.{Within, Told, IsField}
use Rattle.fx_unify.proofs.DecideLaws.{fixed_more, fixed_of}
use Rattle.fx_unify.proofs.LessLaws.{least_smallest}
use Rattle.fx_unify.proofs.PlainestLaws.{least_plainest}
use Rattle.fx_types.proofs.Lists.{take_all}

-- terms that are types

module _ (st : stores.Store) (ks : List sorts.Sorts) where
  fixed_added : (ts : List Ty) (t : Ty) (k j : ℕ) → AreFixed (least st ks) ts k → Fixed (least st ks) (λ s. g_is (ground s (term t))) j → AreFixed (least st ks) (ts ++ t ∷ []) (k + j)
  fixed_added [] t k j h f = (fixed_more (least st ks) (λ s. g_is (ground s (term t))) j (k + j) f (omega arith), tt)
  fixed_added (u ∷ ts) t k j h f = (fixed_more (least st ks) (λ s. g_is (ground s (term u))) k (k + j) h.0 (omega arith), fixed_added ts t k j h.1 f)

  pub term_checked : (ts : List Ty) (i : ℕ) (t : Ty) (n : ℕ) → i < length ts → t ≡ get_or ts i t → (k : ℕ) × AreFixed (least st ks) (take i ts) k
      → Measuring (Ok n) (least st ks) (Admits st ks) Pipes (λ s. g_is (ground s (term t))) 4096 → (k : ℕ) × AreFixed (least st ks) (take (i + 1) ts) k
  term_checked ts i t n lt at h m =
      let f : (k : ℕ) × Fixed (least st ks) (λ s. g_is (ground s (term t))) k = fixed_of st ks (λ s. g_is (ground s (term t))) n m in
      let next : take (i + 1) ts ≡ take i ts ++ t ∷ [] = take_more ts i t lt ∙ ap (λ d. take i ts ++ d ∷ []) (sym at) in
      (h.0 + f.0, subst (λ us. AreFixed (least st ks) us (h.0 + f.0)) (sym next) (fixed_added (take i ts) t h.0 f.0 h.1 f.1))

  type_at : (s : Solution) (ts : List Ty) (i : ℕ) (t : Ty) → AreTypes s ts → i < length ts → t ≡ get_or ts i t → IsType (ground s (term t))
  type_at s [] i t h lt e = absurd (omega arith)
  type_at s (u ∷ ts) zero t h lt e = subst (λ x. IsType (ground s (term x))) (sym e) h.0
  type_at s (u ∷ ts) (suc i) t h lt e = type_at s ts i t h.1 (omega arith) e

  pub term_refused : (ts : List Ty) (i : ℕ) (t : Ty) (f : UnifyFault) → i < length ts → t ≡ get_or ts i t
      → Measuring (Err f) (least st ks) (Admits st ks) Pipes (λ s. g_is (ground s (term t))) 4096 → CheckingTerms {A = Unit {0}} (Err f) st ks ts
  term_refused ts i t fault.Clash lt at m = λ s among types. (let is : IsType (ground s (term t)) = type_at s ts i t types lt at in m s among is.0 is.1)
  term_refused ts i t fault.Memory lt at m = tt

  pub terms_checked : (ts : List Ty) (i : ℕ) → length ts ≤ i → (k : ℕ) × AreFixed (least st ks) (take i ts) k → (k : ℕ) × AreFixed (least st ks) ts k
  terms_checked ts i le h = (h.0, subst (λ us. AreFixed (least st ks) us h.0) (take_all ts i le) h.1)

  are_types : (ts : List Ty) (k n : ℕ) → k ≤ n → AreFixed (least st ks) ts k → AreTypes (least st ks n) ts
  are_types [] k n le h = tt
  are_types (t ∷ ts) k n le h =
      let is : IsField (g_is (ground (least st ks n) (term t))) = subst IsField (sym (h.0.1 n le)) h.0.2 in
      (is, are_types ts k n le h.1)

  -- the judgement

  pub judged_least : (bs : List bounds.Bound) (ts : List Ty) (f : UnifyFault) → Narrowed st ks bs → Checking {A = Unit {0}} (Err f) st ks (IsLeast st ks) → Judging {A = Unit {0}} (Err f) st bs ts
  judged_least bs ts fault.Clash narrowed h = λ s solved keeps types within. h s (solved, narrowed.0 s solved keeps) within
  judged_least bs ts fault.Memory narrowed h = tt

  pub judged_terms : (bs : List bounds.Bound) (ts : List Ty) (r : Result (Unit {0}) UnifyFault) → Narrowed st ks bs → (k : ℕ) × IsLeast st ks k → CheckingTerms r st ks ts → Judging r st bs ts
  judged_terms bs ts (Ok a) narrowed h t =
      let n : ℕ = h.0 + t.0 in
      let all : Solved (least st ks n) (entry st) × Within (least st ks n) = h.1 n (omega arith) in
      (least st ks n, all.0, narrowed.1 n all.0, are_types ts t.0 n (omega arith) t.1, all.1, least_plainest st ks bs narrowed n, λ q solved keeps. least_smallest st ks q (solved, narrowed.0 q solved keeps) n)
  judged_terms bs ts (Err fault.Clash) narrowed h t = λ s solved keeps types within. t s (solved, narrowed.0 s solved keeps) types
  judged_terms bs ts (Err fault.Memory) narrowed h t = tt

pub judged_bounds : (st : stores.Store) (bs : List bounds.Bound) (ts : List Ty) (f : UnifyFault) → Told f ((s : Solution) → Solved s (entry st) → Keeps s bs → ⊥)
    → Judging {A = Unit {0}} (Err f) st bs ts
judged_bounds st bs ts fault.Clash h = λ s solved keeps types within. h s solved keeps
judged_bounds st bs ts fault.Memory h = tt

pub judged_over : (st : stores.Store) (xs bs : List bounds.Bound) (us ts : List Ty) (r : Result (Unit {0}) UnifyFault) → xs ≡ bs → us ≡ ts → Judging r st xs us → Judging r st bs ts
judged_over st xs bs us ts r e f h = subst (λ ys. Judging r st ys ts) e (subst (λ vs. Judging r st xs vs) f h)
