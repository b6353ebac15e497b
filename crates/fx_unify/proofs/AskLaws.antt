-- Bindings of nothing, what is asked more of bindings, and what they are once it is solved.
use Rattle.std.proofs.Common.{◌≡◌, ◌↔◌, inl, refl, sym, ap, subst, ◌∙◌, ℕ, ◌+◌, ◌≤◌, max, true, List, [], ◌∷◌, ◌++◌, get_or, None, option_map, Result, Ok, Err, arith}
use Rattle.fx_types.specs.declared.term.Ty.{Ty}
use Rattle.fx_types.specs.Agree.{Agree}
use Rattle.fx_types.specs.Ground.{Ground, g_absent, g_is}
use Rattle.fx_types.specs.Instance.{Solution, ground, plainest}
use Rattle.fx_types.specs.Numbers.{numbers}
use Rattle.fx_types.specs.Shape.{term}
use Rattle.fx_types.specs.Size.{IsType}
use Rattle.fx_types.specs.Term.{Label}
use Rattle.fx_types.proofs.AgreeLaws.{agree_less, agree_term}
use Rattle.fx_unify.specs.declared.bindings.Bindings as declared
use Rattle.fx_unify.specs.declared.bound.Bound as bounds
use Rattle.fx_unify.specs.declared.fault.UnifyFault.{UnifyFault}
use Rattle.fx_unify.specs.declared.fault.UnifyFault.TheVariants as fault
use Rattle.fx_unify.specs.declared.store.Slot as slot
use Rattle.fx_unify.specs.declared.store.Store as stores
use Rattle.fx_unify.specs.Below.{BoundsBelow, TermsBelow, IsBelow}
use Rattle.fx_unify.specs.Bounds.{Keeps}
use Rattle.fx_unify.specs.Judge.{AreTypes, Judging}
use Rattle.fx_unify.specs.Part.{Variable, type_node, field_node, slot_node, p_is, part, Solved}
use Rattle.fx_unify.specs.Plainest.{IsPlainest}
use Rattle.fx_unify.specs.Smaller.{IsSmaller}
use Rattle.fx_unify.specs.Solutions.{Meets, Solves, HasLeast, IsUnrestricted}
use Rattle.fx_unify.specs.Sorts.{allows}
use Rattle.fx_unify.specs.Store.{entry, slot_in, rest_in}
use Rattle.fx_unify.specs.Work.{Hold, Holds, Within, Told, Refuses, Solving, nothing_more}
use Rattle.fx_unify.proofs.DecideLaws.{no_item}
use Rattle.fx_unify.proofs.LessLaws.{less_smaller, int_less}
use Rattle.fx_unify.proofs.SolvingLaws.{type_is}
use Rattle.fx_unify.proofs.StoreLaws.{none_some}

-- there is a least solution
abbrev Least : stores.Store → List bounds.Bound → List Ty → Type 0
Least st bs ts = (s : Solution) × Meets s st bs ts × Within s × IsPlainest st bs s × ((q : Solution) → Meets q st bs ts → IsSmaller s q) × (st.work.items ≡ [])

-- nothing is asked

module _ (st : stores.Store) (bs : List bounds.Bound) (ts : List Ty) (types : st.types.items ≡ []) (fields : st.fields.items ≡ []) (slots : st.slots.items ≡ []) (kept : st.apart.items ≡ [])
    (rests : st.rests.items ≡ []) (work : st.work.items ≡ []) (none : bs ≡ []) (also : ts ≡ []) where
  unbound : (x : Variable) → entry st x ≡ None
  unbound (type_node n) = ap (option_map (λ t. p_is (term t))) (ap (λ xs. get_or xs n None) types ∙ no_item [] n None (omega arith))
  unbound (field_node n) = ap (option_map part) (ap (λ xs. get_or xs n None) fields ∙ no_item [] n None (omega arith))
  unbound (slot_node r l) =
      (λ i. slot_in (get_or (slots i) r []) l (rest_in (get_or (kept i) r []) (get_or (rests i) r None) l))
      ∙ (λ i. slot_in (no_item {A = List slot.Slot} [] r [] (omega arith) i) l (rest_in (no_item {A = List Label} [] r [] (omega arith) i) (no_item [] r None (omega arith) i) l))

  pub nothing_asked : (s : Solution) → Meets s st bs ts
  nothing_asked s = ((λ x p e. none_some p (entry st x) (unbound x) e, subst (Hold s) (sym work) tt), subst (Keeps s) (sym none) tt, subst (AreTypes s) (sym also) tt)

  pub nothing_least : Least st bs ts
  nothing_least = (
    plainest,
    nothing_asked plainest,
    (λ n. (tt, omega arith), λ n. (tt, tt), λ n. ((g_absent, refl, ([], λ l h. refl)), λ l. (tt, tt))),
    (λ n free. inl refl, λ n free. refl, λ r l free. refl),
    λ q meets. less_smaller plainest q (λ n. int_less (q.type_of n), λ n. tt, λ r l. tt),
    work,
  )

  pub nothing_below : IsBelow 0 st bs ts
  nothing_below = (λ s q agree holds. (nothing_asked q).0, subst (BoundsBelow 0) (sym none) tt, subst (TermsBelow 0) (sym also) tt)

-- equations that were solved

module _ (old new : stores.Store) (bs : List bounds.Bound) (ts : List Ty) where
  pub run_clash : (f : UnifyFault) → Solving {A = Unit {0}} (Err f) old new nothing_more → Told f ((s : Solution) → Meets s old bs ts → Within s → ⊥)
  run_clash fault.Clash h = λ s meets within. h s meets.0 tt within
  run_clash fault.Memory h = tt

  module _ (run : (s : Solution) → Holds s new ↔ (Holds s old × nothing_more s)) where
    pub settled : (s : Solution) → Meets s new bs ts ↔ Meets s old bs ts
    settled s = (λ h. (((run s).0 h.0).0, h.1, h.2), λ h. ((run s).1 (h.0, tt), h.1, h.2))

    pub has_least : new.work.items ≡ [] → Judging {A = Unit {0}} (Ok tt) new bs ts → Least new bs ts
    has_least none h = (h.0, ((h.1, subst (Hold h.0) (sym none) tt), h.2, h.3), h.4, h.5, λ q meets. h.6 q meets.0.0 meets.1, none)

    pub judged_clash : (f : UnifyFault) → Judging {A = Unit {0}} (Err f) new bs ts → Told f ((s : Solution) → Meets s old bs ts → Within s → ⊥)
    judged_clash fault.Clash h = λ s meets within. (let now : Meets s new bs ts = (settled s).1 meets in h s now.0.0 now.1 now.2 within)
    judged_clash fault.Memory h = tt

    pub still_below : (n : ℕ) → IsBelow n old bs ts → IsBelow n new bs ts
    still_below n h = (λ s q agree holds. (run q).1 (h.0 s q agree ((run s).0 holds).0, tt), h.1, h.2)

-- bounds and terms below a greater number

bounds_more : (m n : ℕ) (bs : List bounds.Bound) → m ≤ n → BoundsBelow m bs → BoundsBelow n bs
bounds_more m n [] le h = tt
bounds_more m n (b ∷ bs) le h = ((let few : b.var + 1 ≤ m = h.0 in omega arith), bounds_more m n bs le h.1)

terms_more : (m n : ℕ) (ts : List Ty) → m ≤ n → TermsBelow m ts → TermsBelow n ts
terms_more m n [] le h = tt
terms_more m n (t ∷ ts) le h = ((let few : numbers (term t) ≤ m = h.0 in omega arith), terms_more m n ts le h.1)

bounds_last : (n : ℕ) (bs : List bounds.Bound) (b : bounds.Bound) → BoundsBelow n bs → b.var + 1 ≤ n → BoundsBelow n (bs ++ b ∷ [])
bounds_last n [] b h le = (le, tt)
bounds_last n (c ∷ bs) b h le = (h.0, bounds_last n bs b h.1 le)

terms_last : (n : ℕ) (ts : List Ty) (t : Ty) → TermsBelow n ts → numbers (term t) ≤ n → TermsBelow n (ts ++ t ∷ [])
terms_last n [] t h le = (le, tt)
terms_last n (u ∷ ts) t h le = (h.0, terms_last n ts t h.1 le)

holds_more : (m n : ℕ) (st : stores.Store) → m ≤ n → ((s q : Solution) → Agree m s q → Holds s st → Holds q st) → (s q : Solution) → Agree n s q → Holds s st → Holds q st
holds_more m n st le h s q agree holds = h s q (agree_less n m s q agree le) holds

-- one equation more

module _ (old mid : stores.Store) (a b x y : Ty) (left : x ≡ a) (right : y ≡ b) (solved_same : (s : Solution) → Solved s (entry mid) ↔ Solved s (entry old))
    (work : (s : Solution) → Hold s mid.work.items ↔ (Hold s old.work.items × (g_is (ground s (term x)) ≡ g_is (ground s (term y))))) where
  abbrev Equal : Solution → Type 0
  Equal s = ground s (term a) ≡ ground s (term b)

  held : (s : Solution) → Holds s mid ↔ (Holds s old × Equal s)
  held s = (
    λ h. (
      ((solved_same s).0 h.0, ((work s).0 h.1).0),
      ap (λ t. ground s (term t)) (sym left) ∙ (type_is (ground s (term x)) (ground s (term y))).0 ((work s).0 h.1).1 ∙ ap (λ t. ground s (term t)) right,
    ),
    λ h. (
      (solved_same s).1 h.0.0,
      (work s).1 (h.0.1, (type_is (ground s (term x)) (ground s (term y))).1 (ap (λ t. ground s (term t)) left ∙ h.1 ∙ ap (λ t. ground s (term t)) (sym right))),
    ),
  )

  pub equation_asked : (bs : List bounds.Bound) (ts : List Ty) (s : Solution) → Meets s mid bs ts ↔ (Meets s old bs ts × Equal s)
  equation_asked bs ts s = (λ h. (let before : Holds s old × Equal s = (held s).0 h.0 in ((before.0, h.1, h.2), before.1)), λ h. ((held s).1 (h.0.0, h.1), h.0.1, h.0.2))

  pub equation_below : (bs : List bounds.Bound) (ts : List Ty) (m n i j k : ℕ) → i ≡ numbers (term a) → j ≡ numbers (term b) → k ≡ max i j → n ≡ max m k → IsBelow m old bs ts → IsBelow n mid bs ts
  equation_below bs ts m n i j k of_a of_b most whole h = (moved, bounds_more m n bs (omega arith) h.1, terms_more m n ts (omega arith) h.2)
    where
      moved : (s q : Solution) → Agree n s q → Holds s mid → Holds q mid
      moved s q agree holds =
          let before : Holds s old × Equal s = (held s).0 holds in
          let first : ground s (term a) ≡ ground q (term a) = agree_term n s q agree (term a) (omega arith) in
          let second : ground s (term b) ≡ ground q (term b) = agree_term n s q agree (term b) (omega arith) in
          (held q).1 (h.0 s q (agree_less n m s q agree (omega arith)) before.0, sym first ∙ before.1 ∙ second)

-- one bound more

keeps_more : (s : Solution) (bs : List bounds.Bound) (b : bounds.Bound) → Keeps s (bs ++ b ∷ []) ↔ (Keeps s bs × (allows b.sorts (s.type_of b.var) ≡ true))
keeps_more s [] b = (λ h. (tt, h.0), λ h. (h.1, tt))
keeps_more s (c ∷ bs) b =
    let h : Keeps s (bs ++ b ∷ []) ↔ (Keeps s bs × (allows b.sorts (s.type_of b.var) ≡ true)) = keeps_more s bs b in
    (λ k. ((k.0, (h.0 k.1).0), (h.0 k.1).1), λ k. (k.0.0, h.1 (k.0.1, k.1)))

module _ (st : stores.Store) (bs cs : List bounds.Bound) (ts : List Ty) (b : bounds.Bound) (added : cs ≡ bs ++ b ∷ []) where
  pub bound_asked : (v : ℕ) → b.var ≡ v → (P : Ground → Type 0) → ((g : Ground) → (allows b.sorts g ≡ true) ↔ P g) → (s : Solution) → Meets s st cs ts ↔ (Meets s st bs ts × P (s.type_of v))
  bound_asked v is P means s =
      let last : Keeps s (bs ++ b ∷ []) ↔ (Keeps s bs × (allows b.sorts (s.type_of b.var) ≡ true)) = keeps_more s bs b in (
        λ h. (let both : Keeps s bs × (allows b.sorts (s.type_of b.var) ≡ true) = last.0 (subst (Keeps s) added h.1) in ((h.0, both.0, h.2), subst (λ i. P (s.type_of i)) is ((means (s.type_of b.var)).0 both.1))),
        λ h. (h.0.0, subst (Keeps s) (sym added) (last.1 (h.0.1, (means (s.type_of b.var)).1 (subst (λ i. P (s.type_of i)) (sym is) h.1))), h.0.2),
      )

  pub bound_below : (v : ℕ) → b.var ≡ v → (m n : ℕ) → n ≡ max m (v + 1) → IsBelow m st bs ts → IsBelow n st cs ts
  bound_below v is m n whole h = (
    holds_more m n st (omega arith) h.0,
    subst (BoundsBelow n) (sym added) (bounds_last n bs b (bounds_more m n bs (omega arith) h.1) (omega arith)),
    terms_more m n ts (omega arith) h.2,
  )

-- one type more

types_last : (s : Solution) (ts : List Ty) (t : Ty) → AreTypes s (ts ++ t ∷ []) ↔ (AreTypes s ts × IsType (ground s (term t)))
types_last s [] t = (λ h. (tt, h.0), λ h. (h.1, tt))
types_last s (u ∷ ts) t =
    let h : AreTypes s (ts ++ t ∷ []) ↔ (AreTypes s ts × IsType (ground s (term t))) = types_last s ts t in
    (λ k. ((k.0, (h.0 k.1).0), (h.0 k.1).1), λ k. (k.0.0, h.1 (k.0.1, k.1)))

module _ (st : stores.Store) (bs : List bounds.Bound) (ts us : List Ty) (t x : Ty) (same : x ≡ t) (added : us ≡ ts ++ x ∷ []) where
  pub type_asked : (s : Solution) → Meets s st bs us ↔ (Meets s st bs ts × IsType (ground s (term t)))
  type_asked s =
      let last : AreTypes s (ts ++ x ∷ []) ↔ (AreTypes s ts × IsType (ground s (term x))) = types_last s ts x in (
        λ h. (let both : AreTypes s ts × IsType (ground s (term x)) = last.0 (subst (AreTypes s) added h.2) in ((h.0, h.1, both.0), subst (λ u. IsType (ground s (term u))) same both.1)),
        λ h. (h.0.0, h.0.1, subst (AreTypes s) (sym added) (last.1 (h.0.2, subst (λ u. IsType (ground s (term u))) (sym same) h.1))),
      )

  pub type_below : (m n k : ℕ) → k ≡ numbers (term t) → n ≡ max m k → IsBelow m st bs ts → IsBelow n st bs us
  type_below m n k of_t whole h =
      let here : k ≡ numbers (term x) = of_t ∙ ap (λ u. numbers (term u)) (sym same) in (
        holds_more m n st (omega arith) h.0,
        bounds_more m n bs (omega arith) h.1,
        subst (TermsBelow n) (sym added) (terms_last n ts x (terms_more m n ts (omega arith) h.2) (omega arith)),
      )

-- whatever is asked more

module _ (old mid : declared.Bindings) (E : Solution → Type 0) (more : (s : Solution) → Solves s mid ↔ (Solves s old × E s)) where
  pub asked_more : (new : declared.Bindings) → ((s : Solution) → Solves s new ↔ Solves s mid) → (s : Solution) → Solves s new ↔ (Solves s old × E s)
  asked_more new h s = (λ k. (more s).0 ((h s).0 k), λ k. (h s).1 ((more s).1 k))

  pub refused_more : {A : Type 0} (r : Result A UnifyFault) → Refuses r ((s : Solution) → Solves s mid → Within s → ⊥) → Refuses r ((s : Solution) → Solves s old → Within s → E s → ⊥)
  refused_more (Ok v) h = tt
  refused_more (Err fault.Clash) h = λ s solves within e. h s ((more s).1 (solves, e)) within
  refused_more (Err fault.Memory) h = tt

-- all bindings

keeps_below : (n : ℕ) (s q : Solution) → Agree n s q → (bs : List bounds.Bound) → BoundsBelow n bs → Keeps s bs → Keeps q bs
keeps_below n s q agree [] below h = tt
keeps_below n s q agree (b ∷ bs) below h =
    let few : b.var + 1 ≤ n = below.0 in
    (subst (λ g. allows b.sorts g ≡ true) (agree b.var (omega arith)).0 h.0, keeps_below n s q agree bs below.1 h.1)

types_below : (n : ℕ) (s q : Solution) → Agree n s q → (ts : List Ty) → TermsBelow n ts → AreTypes s ts → AreTypes q ts
types_below n s q agree [] below h = tt
types_below n s q agree (t ∷ ts) below h = (subst IsType (agree_term n s q agree (term t) below.0) h.0, types_below n s q agree ts below.1 h.1)

pub unrestricted : (b : declared.Bindings) → IsUnrestricted b
unrestricted b s q agree h = (b.below.0 s q agree h.0, keeps_below b.next s q agree b.bounds.items b.below.1 h.1, types_below b.next s q agree b.also.items b.below.2 h.2)

-- where there is a least solution, the bounds don't refuse all
pub not_refused : (b : declared.Bindings) (bs : List bounds.Bound) (f : UnifyFault) → bs ≡ b.bounds.items → f ≡ fault.Clash → Told f ((s : Solution) → Solved s (entry b.store) → Keeps s bs → ⊥) → HasLeast b → ⊥
not_refused b bs f same is told least =
    subst (λ g. Told g ((s : Solution) → Solved s (entry b.store) → Keeps s bs → ⊥)) is told least.0 least.1.0.0 (subst (Keeps least.0) (sym same) least.1.1)
