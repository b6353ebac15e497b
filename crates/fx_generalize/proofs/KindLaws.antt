-- Kinds that are left to a type variable, and bounds.
use Rattle.std.proofs.Common.{◌≡◌, ◌↔◌, ◌⊎◌, inl, inr, refl, sym, ap, subst, ◌∙◌, ℕ, ◌+◌, ◌≤◌, ◌<◌, max, Bool, true, false, List, [], ◌∷◌, ◌++◌, get_or, arith}
use borrow.Author.Count.{below_more}
use mathlib.Core.Bool.{true≢false}
use Rattle.fx_types.specs.Ground.{Ground, g_bool, g_int, g_text, g_time, g_span, g_pattern, g_done, g_array, g_fun, g_rec, g_stream}
use Rattle.fx_types.specs.Instance.{Solution}
use Rattle.fx_types.specs.Kinds.{of_kind, IsAmong}
use Rattle.fx_unify.specs.declared.sorts.Sorts as sorts
use Rattle.fx_unify.specs.Sorts.{allows, set_at}
use Rattle.fx_value.specs.declared.scalar.Kind.{Kind}
use Rattle.fx_value.specs.declared.scalar.Kind.TheVariants as kind
use Rattle.fx_generalize.specs.declared.solved.VarBound.{VarBound}
use Rattle.fx_generalize.specs.Named.{IsBounded}
use Rattle.fx_generalize.specs.Solved.{AreAbove, Ascend, KeepsKinds, numbers_bounds}
use Rattle.fx_generalize.proofs.UseLaws.{kinds_last}

among_last : (ks : List Kind) (k : Kind) (span : Bool) (g : Ground) → IsAmong (ks ++ k ∷ []) span g ↔ (IsAmong ks span g ⊎ (g ≡ of_kind k))
among_last [] k span g = (one, two)
  where
    one : IsAmong (k ∷ []) span g → IsAmong [] span g ⊎ (g ≡ of_kind k)
    one (inl e) = inr e
    one (inr h) = inl h

    two : IsAmong [] span g ⊎ (g ≡ of_kind k) → IsAmong (k ∷ []) span g
    two (inl h) = inr h
    two (inr e) = inl e
among_last (j ∷ ks) k span g = (one (among_last ks k span g), two (among_last ks k span g))
  where
    one : (IsAmong (ks ++ k ∷ []) span g ↔ (IsAmong ks span g ⊎ (g ≡ of_kind k))) → IsAmong (j ∷ ks ++ k ∷ []) span g → IsAmong (j ∷ ks) span g ⊎ (g ≡ of_kind k)
    one more (inl e) = inl (inl e)
    one more (inr h) = behind (more.0 h)
      where
        behind : IsAmong ks span g ⊎ (g ≡ of_kind k) → IsAmong (j ∷ ks) span g ⊎ (g ≡ of_kind k)
        behind (inl h) = inl (inr h)
        behind (inr e) = inr e

    two : (IsAmong (ks ++ k ∷ []) span g ↔ (IsAmong ks span g ⊎ (g ≡ of_kind k))) → IsAmong (j ∷ ks) span g ⊎ (g ≡ of_kind k) → IsAmong (j ∷ ks ++ k ∷ []) span g
    two more (inl (inl e)) = inl e
    two more (inl (inr h)) = inr (more.1 (inl h))
    two more (inr e) = inr (more.1 (inr e))

pub kind_added : (old new : List Kind) (k : Kind) (flag : Bool) → flag ≡ true → new ≡ old ++ k ∷ [] → (span : Bool) (g : Ground) → IsAmong new span g ↔ (IsAmong old span g ⊎ ((flag ≡ true) × (g ≡ of_kind k)))
kind_added old new k flag is pushed span g =
    (λ h. one ((among_last old k span g).0 (subst (λ ks. IsAmong ks span g) pushed h)), λ h. subst (λ ks. IsAmong ks span g) (sym pushed) ((among_last old k span g).1 (two h)))
  where
    one : IsAmong old span g ⊎ (g ≡ of_kind k) → IsAmong old span g ⊎ ((flag ≡ true) × (g ≡ of_kind k))
    one (inl h) = inl h
    one (inr e) = inr (is, e)

    two : IsAmong old span g ⊎ ((flag ≡ true) × (g ≡ of_kind k)) → IsAmong old span g ⊎ (g ≡ of_kind k)
    two (inl h) = inl h
    two (inr h) = inr h.1

pub kind_absent : (old : List Kind) (k : Kind) (flag : Bool) → flag ≡ false → (span : Bool) (g : Ground) → IsAmong old span g ↔ (IsAmong old span g ⊎ ((flag ≡ true) × (g ≡ of_kind k)))
kind_absent old k flag is span g = (λ h. inl h, two)
  where
    two : IsAmong old span g ⊎ ((flag ≡ true) × (g ≡ of_kind k)) → IsAmong old span g
    two (inl h) = h
    two (inr h) = absurd (true≢false (sym h.0 ∙ is))

-- the kinds of a set, one after another

abbrev More : List Kind → List Kind → Kind → Bool → Type 0
More old new k flag = (span : Bool) (g : Ground) → IsAmong new span g ↔ (IsAmong old span g ⊎ ((flag ≡ true) × (g ≡ of_kind k)))

module _ (set : sorts.Sorts) (none a b c d : List Kind) (empty : none ≡ []) (one : More none a kind.Bool set.boolean) (two : More a b kind.Int set.integer) (three : More b c kind.Text set.text)
    (four : More c d kind.Time set.time) where
  inside : (g : Ground) → IsAmong d set.span g → allows set g ≡ true
  inside g h = last ((four set.span g).0 h)
    where
      first : IsAmong [] set.span g → allows set g ≡ true
      first h = ap (allows set) h.1 ∙ h.0

      second : IsAmong none set.span g ⊎ ((set.boolean ≡ true) × (g ≡ of_kind kind.Bool)) → allows set g ≡ true
      second (inl h) = first (subst (λ ks. IsAmong ks set.span g) empty h)
      second (inr h) = ap (allows set) h.1 ∙ h.0

      third : IsAmong a set.span g ⊎ ((set.integer ≡ true) × (g ≡ of_kind kind.Int)) → allows set g ≡ true
      third (inl h) = second ((one set.span g).0 h)
      third (inr h) = ap (allows set) h.1 ∙ h.0

      fourth : IsAmong b set.span g ⊎ ((set.text ≡ true) × (g ≡ of_kind kind.Text)) → allows set g ≡ true
      fourth (inl h) = third ((two set.span g).0 h)
      fourth (inr h) = ap (allows set) h.1 ∙ h.0

      last : IsAmong c set.span g ⊎ ((set.time ≡ true) × (g ≡ of_kind kind.Time)) → allows set g ≡ true
      last (inl h) = fourth ((three set.span g).0 h)
      last (inr h) = ap (allows set) h.1 ∙ h.0

  from_first : (g : Ground) → IsAmong none set.span g → IsAmong d set.span g
  from_first g h = (four set.span g).1 (inl ((three set.span g).1 (inl ((two set.span g).1 (inl ((one set.span g).1 (inl h)))))))

  outside : set.other ≡ false → (g : Ground) → allows set g ≡ true → IsAmong d set.span g
  outside e g_bool h = (four set.span g_bool).1 (inl ((three set.span g_bool).1 (inl ((two set.span g_bool).1 (inl ((one set.span g_bool).1 (inr (h, refl))))))))
  outside e g_int h = (four set.span g_int).1 (inl ((three set.span g_int).1 (inl ((two set.span g_int).1 (inr (h, refl))))))
  outside e g_text h = (four set.span g_text).1 (inl ((three set.span g_text).1 (inr (h, refl))))
  outside e g_time h = (four set.span g_time).1 (inr (h, refl))
  outside e g_span h = from_first g_span (subst (λ ks. IsAmong ks set.span g_span) (sym empty) (h, refl))
  outside e g_pattern h = absurd (true≢false (sym h ∙ e))
  outside e g_done h = absurd (true≢false (sym h ∙ e))
  outside e (g_array t) h = absurd (true≢false (sym h ∙ e))
  outside e (g_fun r p t) h = absurd (true≢false (sym h ∙ e))
  outside e (g_rec r) h = absurd (true≢false (sym h ∙ e))
  outside e (g_stream r) h = absurd (true≢false (sym h ∙ e))

  pub kinds_exact : set.other ≡ false → (g : Ground) → IsAmong d set.span g ↔ (allows set g ≡ true)
  kinds_exact e g = (inside g, outside e g)

-- bounds, one after another

module _ (ks : List sorts.Sorts) (ns : List ℕ) (i : ℕ) (before : List VarBound) (made : (q : Solution) → KeepsKinds q before ↔ ((k : ℕ) → k < i → IsBounded ks ns q k)) where
  pub not_bounded : (set : sorts.Sorts) → set ≡ set_at ks (get_or ns i 0) → set.other ≡ true → (q : Solution) → KeepsKinds q before ↔ ((k : ℕ) → k < i + 1 → IsBounded ks ns q k)
  not_bounded set is other q =
      (λ h. below_more (IsBounded ks ns q) i ((made q).0 h) (λ e. absurd (true≢false (sym (ap (λ j. allows j g_pattern) (sym is) ∙ other) ∙ e))), λ h. (made q).1 (λ k lt. h k (omega arith)))

  pub bounded : (set : sorts.Sorts) (more : List VarBound) (b : VarBound) → set ≡ set_at ks (get_or ns i 0) → set.other ≡ false → more ≡ before ++ b ∷ [] → b.var ≡ i
      → ((g : Ground) → IsAmong b.kinds b.span g ↔ (allows set g ≡ true)) → (q : Solution) → KeepsKinds q more ↔ ((k : ℕ) → k < i + 1 → IsBounded ks ns q k)
  bounded set more b is scalar pushed at exact q = (
    λ h. (let both : KeepsKinds q before × IsAmong b.kinds b.span (q.type_of b.var) = (kinds_last q before b).0 (subst (KeepsKinds q) pushed h) in
        below_more (IsBounded ks ns q) i ((made q).0 both.0)
        (λ e. subst (λ j. allows j (q.type_of i) ≡ true) is (subst (λ n. allows set (q.type_of n) ≡ true) at ((exact (q.type_of b.var)).0 both.1)))),
    λ h. (let here : allows set (q.type_of i) ≡ true = subst (λ j. allows j (q.type_of i) ≡ true) (sym is) (h i (omega arith) (ap (λ j. allows j g_pattern) (sym is) ∙ scalar)) in
        subst (KeepsKinds q) (sym pushed) ((kinds_last q before b).1 ((made q).1 (λ k lt. h k (omega arith)), (exact (q.type_of b.var)).1 (subst (λ n. allows set (q.type_of n) ≡ true) (sym at) here)))),
  )

-- bounds in the order of their variables

above_last : (n : ℕ) (bs : List VarBound) (b : VarBound) → AreAbove n bs → n < b.var → AreAbove n (bs ++ b ∷ [])
above_last n [] b h lt = (lt, tt)
above_last n (c ∷ bs) b h lt = (h.0, above_last n bs b h.1 lt)

ascend_last : (bs : List VarBound) (b : VarBound) → Ascend bs → numbers_bounds bs ≤ b.var → Ascend (bs ++ b ∷ [])
ascend_last [] b h le = (tt, tt)
ascend_last (c ∷ bs) b h le = let most : max (c.var + 1) (numbers_bounds bs) ≤ b.var = le in (above_last c.var bs b h.0 (omega arith), ascend_last bs b h.1 (omega arith))

max_none : (k : ℕ) → max k 0 ≡ max 0 k
max_none k = omega arith

max_last : (a m n k : ℕ) → m ≡ max n k → max a m ≡ max (max a n) k
max_last a m n k h = omega arith

numbers_last : (bs : List VarBound) (b : VarBound) → numbers_bounds (bs ++ b ∷ []) ≡ max (numbers_bounds bs) (b.var + 1)
numbers_last [] b = max_none (b.var + 1)
numbers_last (c ∷ bs) b = max_last (c.var + 1) (numbers_bounds (bs ++ b ∷ [])) (numbers_bounds bs) (b.var + 1) (numbers_last bs b)

pub ascend_more : (bs more : List VarBound) (b : VarBound) (i : ℕ) → more ≡ bs ++ b ∷ [] → b.var ≡ i → Ascend bs → numbers_bounds bs ≤ i → Ascend more × (numbers_bounds more ≤ i + 1)
ascend_more bs more b i pushed at h le = (
  subst Ascend (sym pushed) (ascend_last bs b h (omega arith)),
  (let last : numbers_bounds more ≡ max (numbers_bounds bs) (b.var + 1) = ap numbers_bounds pushed ∙ numbers_last bs b in omega arith),
)
