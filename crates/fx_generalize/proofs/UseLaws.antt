-- A kept type at a use.
use Rattle.std.proofs.Common.{◌≡◌, ◌↔◌, sym, ap, subst, ◌∙◌, ℕ, zero, suc, ◌+◌, ◌≤◌, ◌<◌, List, [], ◌∷◌, ◌++◌, take, length, get_or, arith}
use Rattle.std.proofs.lemmas.List.{take_more}
use Rattle.fx_types.specs.declared.term.Ty.{Ty}
use Rattle.fx_types.specs.Agree.{Agree}
use Rattle.fx_types.specs.Ground.{Ground}
use Rattle.fx_types.specs.Instance.{Solution, ground}
use Rattle.fx_types.specs.Kinds.{IsAmong}
use Rattle.fx_types.specs.Numbers.{numbers}
use Rattle.fx_types.specs.Raised.{raised, from, spliced}
use Rattle.fx_types.specs.Shape.{term}
use Rattle.fx_types.specs.Size.{IsType}
use Rattle.fx_types.specs.Term.{Term}
use Rattle.fx_types.proofs.AgreeLaws.{agree_less}
use Rattle.fx_types.proofs.Lists.{take_all}
use Rattle.fx_types.proofs.RaisedLaws.{ground_raised, numbers_raised, spliced_agrees, from_spliced}
use Rattle.fx_unify.specs.declared.bindings.Bindings.{Bindings}
use Rattle.fx_unify.specs.Judge.{AreTypes}
use Rattle.fx_unify.specs.Solutions.{Solves, next_of}
use Rattle.fx_unify.specs.Work.{Within}
use Rattle.fx_unify.proofs.AskLaws.{unrestricted}
use Rattle.fx_unify.proofs.WithinLaws.{spliced_within}
use Rattle.fx_generalize.specs.declared.solved.Solved.{Solved}
use Rattle.fx_generalize.specs.declared.solved.VarBound.{VarBound}
use Rattle.fx_generalize.specs.Solved.{KeepsKinds, Suits, HasInstance, numbers_bounds, numbers_terms}
use Rattle.fx_generalize.specs.Used.{Used}
use Rattle.fx_generalize.proofs.PlainLaws.{plain_solution}

-- what is asked of the numbers from m on leaves the old solutions as they are
pub law_of_use : (D : Ground → Type 0) (Suited : Solution → Type 0) (old new : Bindings) (m : ℕ) (t u : Term) → next_of old ≤ m
    → ((g : Ground) → D g ↔ ((q : Solution) × Suited q × (ground q t ≡ g))) → ((s : Solution) → Solves s new ↔ (Solves s old × Suited (from m s))) → u ≡ raised m t
    → ((q : Solution) → Suited q → IsType (ground q t) → (p : Solution) × Within p × Suited p × (ground p t ≡ ground q t)) → Used D old m new u
law_of_use D Suited old new m t u le instances asked is plain = record { keeps = λ s h. ((asked s).0 h).0; sound = sound; complete = complete; within = within }
  where
    becomes : (s : Solution) → ground s u ≡ ground (from m s) t
    becomes s = ap (ground s) is ∙ ground_raised m s t

    sound : (s : Solution) → Solves s new → D (ground s u)
    sound s h = (instances (ground s u)).1 (from m s, ((asked s).0 h).1, sym (becomes s))

    made : (s w : Solution) → Solves s old → Suited w → Agree m s (spliced m s w) × Solves (spliced m s w) new × (ground (spliced m s w) u ≡ ground w t)
    made s w h suits =
        let agrees : Agree m s (spliced m s w) = spliced_agrees m s w in
        let still : Solves (spliced m s w) old = unrestricted old s (spliced m s w) (agree_less m (next_of old) s (spliced m s w) agrees le) h in (
          agrees,
          (asked (spliced m s w)).1 (still, subst Suited (sym (from_spliced m s w)) suits),
          becomes (spliced m s w) ∙ ap (λ q. ground q t) (from_spliced m s w),
        )

    complete : (s : Solution) → Solves s old → (g : Ground) → D g → (q : Solution) × Agree m s q × Solves q new × (ground q u ≡ g)
    complete s h g d =
        let w : (q : Solution) × Suited q × (ground q t ≡ g) = (instances g).0 d in
        let f : Agree m s (spliced m s w.0) × Solves (spliced m s w.0) new × (ground (spliced m s w.0) u ≡ ground w.0 t) = made s w.0 h w.1 in (spliced m s w.0, f.0, f.1, f.2 ∙ w.2)

    within : (s : Solution) → Solves s old → Within s → (g : Ground) → D g → IsType g → (q : Solution) × Agree m s q × Solves q new × Within q × (ground q u ≡ g)
    within s h small g d type =
        let w : (q : Solution) × Suited q × (ground q t ≡ g) = (instances g).0 d in
        let p : (p : Solution) × Within p × Suited p × (ground p t ≡ ground w.0 t) = plain w.0 w.1 (subst IsType (sym w.2) type) in
        let f : Agree m s (spliced m s p.0) × Solves (spliced m s p.0) new × (ground (spliced m s p.0) u ≡ ground p.0 t) = made s p.0 h p.2 in
        (spliced m s p.0, f.0, f.1, spliced_within m s p.0 small p.1, f.2 ∙ p.3 ∙ w.2)

-- bounds, one after another

pub kinds_last : (s : Solution) (bs : List VarBound) (b : VarBound) → KeepsKinds s (bs ++ b ∷ []) ↔ (KeepsKinds s bs × IsAmong b.kinds b.span (s.type_of b.var))
kinds_last s [] b = (λ h. (tt, h.0), λ h. (h.1, tt))
kinds_last s (c ∷ bs) b = (λ h. (let k : KeepsKinds s bs × IsAmong b.kinds b.span (s.type_of b.var) = (kinds_last s bs b).0 h.1 in ((h.0, k.0), k.1)), λ h. (h.0.0, (kinds_last s bs b).1 (h.0.1, h.1)))

pub bound_number : (bs : List VarBound) (i : ℕ) (b : VarBound) → i < length bs → b ≡ get_or bs i b → b.var + 1 ≤ numbers_bounds bs
bound_number [] i b lt at = absurd (omega arith)
bound_number (c ∷ bs) zero b lt at = let same : b.var ≡ c.var = ap (λ d. d.var) at in omega arith
bound_number (c ∷ bs) (suc i) b lt at = let le : b.var + 1 ≤ numbers_bounds bs = bound_number bs i b (omega arith) at in omega arith

pub bound_step : (m : ℕ) (old asked new : Bindings) (bs : List VarBound) (i : ℕ) (b : VarBound) (n : ℕ) → i < length bs → b ≡ get_or bs i b → n ≡ b.var + m
    → ((s : Solution) → Solves s asked ↔ (Solves s old × KeepsKinds (from m s) (take i bs))) → ((s : Solution) → Solves s new ↔ (Solves s asked × IsAmong b.kinds b.span (s.type_of n)))
    → (s : Solution) → Solves s new ↔ (Solves s old × KeepsKinds (from m s) (take (i + 1) bs))
bound_step m old asked new bs i b n lt at number before one s =
    let next : take (i + 1) bs ≡ take i bs ++ b ∷ [] = take_more bs i b lt ∙ ap (λ d. take i bs ++ d ∷ []) (sym at) in (
      λ h. (let k : Solves s asked × IsAmong b.kinds b.span (s.type_of n) = (one s).0 h in
          let was : Solves s old × KeepsKinds (from m s) (take i bs) = (before s).0 k.0 in
          (was.0, subst (KeepsKinds (from m s)) (sym next) ((kinds_last (from m s) (take i bs) b).1 (was.1, subst (λ j. IsAmong b.kinds b.span (s.type_of j)) number k.1)))),
      λ h. (let k : KeepsKinds (from m s) (take i bs) × IsAmong b.kinds b.span (s.type_of (b.var + m)) = (kinds_last (from m s) (take i bs) b).0 (subst (KeepsKinds (from m s)) next h.1) in
          (one s).1 ((before s).1 (h.0, k.0), subst (λ j. IsAmong b.kinds b.span (s.type_of j)) (sym number) k.1)),
    )

-- terms, one after another

types_last : (s : Solution) (ts : List Ty) (t : Ty) → AreTypes s (ts ++ t ∷ []) ↔ (AreTypes s ts × IsType (ground s (term t)))
types_last s [] t = (λ h. (tt, h.0), λ h. (h.1, tt))
types_last s (u ∷ ts) t = (λ h. (let k : AreTypes s ts × IsType (ground s (term t)) = (types_last s ts t).0 h.1 in ((h.0, k.0), k.1)), λ h. (h.0.0, (types_last s ts t).1 (h.0.1, h.1)))

pub term_number : (ts : List Ty) (i : ℕ) (t : Ty) → i < length ts → t ≡ get_or ts i t → numbers (term t) ≤ numbers_terms ts
term_number [] i t lt at = absurd (omega arith)
term_number (u ∷ ts) zero t lt at = let same : numbers (term t) ≡ numbers (term u) = ap (λ d. numbers (term d)) at in omega arith
term_number (u ∷ ts) (suc i) t lt at = let le : numbers (term t) ≤ numbers_terms ts = term_number ts i t (omega arith) at in omega arith

pub term_step : (m : ℕ) (old asked new : Bindings) (ts : List Ty) (i : ℕ) (t r : Ty) → i < length ts → t ≡ get_or ts i t → term r ≡ raised m (term t)
    → ((s : Solution) → Solves s asked ↔ (Solves s old × AreTypes (from m s) (take i ts))) → ((s : Solution) → Solves s new ↔ (Solves s asked × IsType (ground s (term r))))
    → (s : Solution) → Solves s new ↔ (Solves s old × AreTypes (from m s) (take (i + 1) ts))
term_step m old asked new ts i t r lt at is before one s =
    let next : take (i + 1) ts ≡ take i ts ++ t ∷ [] = take_more ts i t lt ∙ ap (λ d. take i ts ++ d ∷ []) (sym at) in
    let becomes : ground s (term r) ≡ ground (from m s) (term t) = ap (ground s) is ∙ ground_raised m s (term t) in (
      λ h. (let k : Solves s asked × IsType (ground s (term r)) = (one s).0 h in
          let was : Solves s old × AreTypes (from m s) (take i ts) = (before s).0 k.0 in
          (was.0, subst (AreTypes (from m s)) (sym next) ((types_last (from m s) (take i ts) t).1 (was.1, subst IsType becomes k.1)))),
      λ h. (let k : AreTypes (from m s) (take i ts) × IsType (ground (from m s) (term t)) = (types_last (from m s) (take i ts) t).0 (subst (AreTypes (from m s)) next h.1) in
          (one s).1 ((before s).1 (h.0, k.0), subst IsType (sym becomes) k.1)),
    )

pub raised_number : (m n : ℕ) (t r : Term) → r ≡ raised m t → numbers t ≤ n → numbers r ≤ m + n
raised_number m n t r is le =
    let most : numbers (raised m t) ≤ numbers t + m = numbers_raised m t in
    let same : numbers r ≡ numbers (raised m t) = ap numbers is in
    omega arith

-- all of them

pub all_bounds : (m : ℕ) (old asked : Bindings) (bs : List VarBound) (i : ℕ) → length bs ≤ i → ((s : Solution) → Solves s asked ↔ (Solves s old × KeepsKinds (from m s) (take i bs)))
    → (s : Solution) → Solves s asked ↔ (Solves s old × KeepsKinds (from m s) bs)
all_bounds m old asked bs i le h = subst (λ d. (s : Solution) → Solves s asked ↔ (Solves s old × KeepsKinds (from m s) d)) (take_all bs i le) h

pub all_types : (m : ℕ) (old asked : Bindings) (ts : List Ty) (i : ℕ) → length ts ≤ i → ((s : Solution) → Solves s asked ↔ (Solves s old × AreTypes (from m s) (take i ts)))
    → (s : Solution) → Solves s asked ↔ (Solves s old × AreTypes (from m s) ts)
all_types m old asked ts i le h = subst (λ d. (s : Solution) → Solves s asked ↔ (Solves s old × AreTypes (from m s) d)) (take_all ts i le) h

-- a kept type whose bounds and terms were asked for
pub all_asked : (v : Solved) (old mid new : Bindings) (m : ℕ) (bs : List VarBound) (ts : List Ty) (u : Term) → next_of old ≤ m → bs ≡ v.bounds → ts ≡ v.also
    → ((s : Solution) → Solves s mid ↔ (Solves s old × KeepsKinds (from m s) bs)) → ((s : Solution) → Solves s new ↔ (Solves s mid × AreTypes (from m s) ts)) → u ≡ raised m (term v.ty)
    → Used (HasInstance v) old m new u
all_asked v old mid new m bs ts u le bounds types one two is = law_of_use (HasInstance v) (Suits v) old new m (term v.ty) u le (λ g. (λ h. h, λ h. h)) asked is (plain_solution v)
  where
    asked : (s : Solution) → Solves s new ↔ (Solves s old × Suits v (from m s))
    asked s = (
      λ h. (let a : Solves s mid × AreTypes (from m s) ts = (two s).0 h in
          let b : Solves s old × KeepsKinds (from m s) bs = (one s).0 a.0 in
          (b.0, (subst (KeepsKinds (from m s)) bounds b.1, subst (AreTypes (from m s)) types a.1))),
      λ h. (two s).1 ((one s).1 (h.0, subst (KeepsKinds (from m s)) (sym bounds) h.1.0), subst (AreTypes (from m s)) (sym types) h.1.1),
    )
