-- Sums over the labels of a row, label by label.
use Rattle.std.proofs.Common.{◌≡◌, refl, sym, ap, subst, ◌∙◌, ℕ, ◌+◌, ◌-◌, ◌≤◌, Bool, true, false, List, [], ◌∷◌, ◌++◌, Err, arith}
use Rattle.std.specs.Prelude.{if◌then◌else◌}
use mathlib.Core.Bool.{true≢false}
use Rattle.fx_base.specs.Text.{same_text}
use Rattle.fx_types.specs.Term.{Label}
use Rattle.fx_types.specs.Ground.{GroundField, GroundRow, g_absent, is_plain, listed, HasDefault, IsWellFormedField}
use Rattle.fx_types.specs.Instance.{Solution}
use Rattle.fx_types.specs.Size.{AreDistinct, total, Weighs}
use Rattle.fx_unify.specs.declared.fault.UnifyFault.TheVariants as fault
use Rattle.fx_unify.specs.Measure.{Measured, Sums, RowMeasured, RowMeasuring}
use Rattle.fx_unify.specs.Sums.{Summed}
use Rattle.fx_types.proofs.Choices.{chosen, passed, never, by_cases, neither}
use Rattle.fx_types.proofs.PlainLaws.{plain_formed, plain_weighs}
use Rattle.fx_types.proofs.RowSums.{same_is, same_itself}
use Rattle.fx_unify.proofs.LabelLaws.{fresh_label, listed_append}

none_of_both : (a b : Bool) → a ≡ false → b ≡ false → (if a then true else b) ≡ false
none_of_both a b e f = passed a true b e ∙ f

-- weights

abbrev put_weight : Label → ℕ → (Label → ℕ) → Label → ℕ
put_weight x w weight l = if same_text l x then w else weight l

untouched : (x : Label) (w : ℕ) (weight : Label → ℕ) (ls : List Label) → listed x ls ≡ false → total (put_weight x w weight) ls ≡ total weight ls
untouched x w weight [] h = refl
untouched x w weight (l ∷ ls) h =
    let apart : (same_text x l ≡ false) × (listed x ls ≡ false) = neither (same_text x l) (listed x ls) h in
    let other : same_text l x ≡ false =
    by_cases (same_text l x) (λ e. never (same_text x l) (subst (λ y. same_text x y ≡ true) (sym (same_is l x e)) (same_itself x)) apart.0) (λ e. e) in
    let here : put_weight x w weight l ≡ weight l = passed (same_text l x) w (weight l) other in
    let more : total (put_weight x w weight) ls ≡ total weight ls = untouched x w weight ls apart.1 in
    omega arith

put_total : (x : Label) (w : ℕ) (weight : Label → ℕ) (ls : List Label) → AreDistinct ls → total (put_weight x w weight) ls ≤ total weight ls + w
put_total x w weight [] d = omega arith
put_total x w weight (l ∷ ls) d =
    by_cases (same_text l x)
    (λ e. let here : put_weight x w weight l ≡ w = chosen (same_text l x) w (weight l) e in
    let more : total (put_weight x w weight) ls ≡ total weight ls = untouched x w weight ls (subst (λ y. listed y ls ≡ false) (same_is l x e) d.0) in
    omega arith)
    (λ e. let here : put_weight x w weight l ≡ weight l = passed (same_text l x) w (weight l) e in
    let more : total (put_weight x w weight) ls ≤ total weight ls + w = put_total x w weight ls d.1 in
    omega arith)

pub no_weight : (ls : List Label) → total (λ _. 0) ls ≤ 0
no_weight [] = omega arith
no_weight (l ∷ ls) = let h : total (λ _. 0) ls ≤ 0 = no_weight ls in omega arith

module _ (at : ℕ → Solution) (Among : Solution → Type 0) (C : GroundField → ℕ → Type 0) (f : Solution → GroundRow) where
  pub sum_start : Summed at Among C f [] 0
  sum_start = (
    λ l. g_absent,
    (0, λ i le l h. absurd (true≢false (sym h))),
    λ l. tt,
    (λ _. 0, λ l h. absurd (true≢false (sym h)), λ l h. refl, λ ls d. no_weight ls),
    λ s among weight all. ([], tt, λ l h. refl, omega arith),
  )

  -- a label that was looked at before
  pub sum_skip : (seen more : List Label) (n : ℕ) → ((l : Label) → listed l more ≡ listed l seen) → Summed at Among C f seen n → Summed at Among C f more n
  sum_skip seen more n same h = (
    h.0,
    (h.1.0, λ i le l e. h.1.1 i le l (sym (same l) ∙ e)),
    h.2,
    (h.3.0, λ l e. h.3.1 l (sym (same l) ∙ e), λ l e. h.3.2 l (sym (same l) ∙ e), h.3.3),
    λ s among weight all.
        (let v : (ls : List Label) × AreDistinct ls × ((l : Label) → listed l seen ≡ false → listed l ls ≡ false) × (n ≤ total weight ls) = h.4 s among weight all in
        (v.0, v.1, λ l e. v.2 l (sym (same l) ∙ e), v.3)),
  )

  -- a new label
  pub sum_add : (seen more : List Label) (x : Label) (n w : ℕ) → listed x seen ≡ false → ((l : Label) → listed l more ≡ (if same_text l x then true else listed l seen))
      → Summed at Among C f seen n → Measured at Among C (λ s. f s x) w → Summed at Among C f more (n + w)
  sum_add seen more x n w new both h m = (row, (h.1.0 + m.1.0, settled), formed, (put_weight x w h.3.0, counts, none, sums), low)
    where
      row : GroundRow
      row l = if same_text l x then m.0 else h.0 l

      settled : (i : ℕ) → h.1.0 + m.1.0 ≤ i → (l : Label) → listed l more ≡ true → f (at i) l ≡ row l
      settled i le l e =
          by_cases (same_text l x) (λ t. ap (f (at i)) (same_is l x t) ∙ m.1.1 i (omega arith) ∙ sym (chosen (same_text l x) m.0 (h.0 l) t))
          (λ t. h.1.1 i (omega arith) l (sym (both l ∙ passed (same_text l x) true (listed l seen) t) ∙ e) ∙ sym (passed (same_text l x) m.0 (h.0 l) t))

      formed : (l : Label) → IsWellFormedField (row l)
      formed l =
          by_cases (same_text l x) (λ t. subst IsWellFormedField (sym (chosen (same_text l x) m.0 (h.0 l) t)) m.2)
          (λ t. subst IsWellFormedField (sym (passed (same_text l x) m.0 (h.0 l) t)) (h.2 l))

      counts : (l : Label) → listed l more ≡ true → C (row l) (put_weight x w h.3.0 l)
      counts l e =
          by_cases (same_text l x) (λ t. subst (λ b. C (if b then m.0 else h.0 l) (if b then w else h.3.0 l)) (sym t) m.3)
          (λ t. subst (λ b. C (if b then m.0 else h.0 l) (if b then w else h.3.0 l)) (sym t) (h.3.1 l (sym (both l ∙ passed (same_text l x) true (listed l seen) t) ∙ e)))

      none : (l : Label) → listed l more ≡ false → put_weight x w h.3.0 l ≡ 0
      none l e =
          let apart : (same_text l x ≡ false) × (listed l seen ≡ false) = neither (same_text l x) (listed l seen) (sym (both l) ∙ e) in
          passed (same_text l x) w (h.3.0 l) apart.0 ∙ h.3.2 l apart.1

      sums : Sums (put_weight x w h.3.0) (n + w)
      sums ls d =
          let some : total (put_weight x w h.3.0) ls ≤ total h.3.0 ls + w = put_total x w h.3.0 ls d in
          let before : total h.3.0 ls ≤ n = h.3.3 ls d in
          omega arith

      low : (s : Solution) → Among s → (weight : Label → ℕ) → ((l : Label) → C (f s l) (weight l))
          → (ls : List Label) × AreDistinct ls × ((l : Label) → listed l more ≡ false → listed l ls ≡ false) × (n + w ≤ total weight ls)
      low s among weight all =
          let v : (ls : List Label) × AreDistinct ls × ((l : Label) → listed l seen ≡ false → listed l ls ≡ false) × (n ≤ total weight ls) = h.4 s among weight all in
          let here : w ≤ weight x = m.4 s among (weight x) (all x) in
          let before : n ≤ total weight v.0 = v.3 in (
            x ∷ v.0,
            (v.2 x new, v.1),
            λ l e. (let apart : (same_text l x ≡ false) × (listed l seen ≡ false) = neither (same_text l x) (listed l seen) (sym (both l) ∙ e) in
                none_of_both (same_text l x) (listed l v.0) apart.0 (v.2 l apart.1)),
            omega arith,
          )

  -- a new label that there is no room for
  pub sum_over : (seen : List Label) (x : Label) (n room : ℕ) → ((g : GroundField) (a b : ℕ) → C g a → a ≤ b → C g b) → listed x seen ≡ false → n ≤ room
      → Summed at Among C f seen n → ((s : Solution) → Among s → IsWellFormedField (f s x) → C (f s x) (room - n) → ⊥)
      → (s : Solution) → Among s → ((l : Label) → IsWellFormedField (f s l)) → (weight : Label → ℕ) → ((l : Label) → C (f s l) (weight l)) → Sums weight room → ⊥
  sum_over seen x n room mono new le h clash s among formed weight all sums =
      let v : (ls : List Label) × AreDistinct ls × ((l : Label) → listed l seen ≡ false → listed l ls ≡ false) × (n ≤ total weight ls) = h.4 s among weight all in
      let before : n ≤ total weight v.0 = v.3 in
      let whole : weight x + total weight v.0 ≤ room = sums (x ∷ v.0) (v.2 x new, v.1) in
      let fits : weight x ≤ room - n = omega arith in
      clash s among (formed x) (mono (f s x) (weight x) (room - n) (all x) fits)

-- the whole row: what was looked at, and a plain field at all other labels

module _ (at : ℕ → Solution) (Among : Solution → Type 0) (f : Solution → GroundRow) (seen : List Label) where
  -- off the labels seen it has the fields of a row of nothing but plain ones
  pub row_on : (n : ℕ) (q : GroundRow) → ((l : Label) → is_plain (q l) ≡ true) → (d : GroundField) × HasDefault q d
      → (k : ℕ) × ((i : ℕ) → k ≤ i → (l : Label) → listed l seen ≡ false → f (at i) l ≡ q l) → Summed at Among Weighs f seen n → RowMeasured at Among f n
  row_on n q plain default rest h = (row, (h.1.0 + rest.0, settled), (default.0, default_plain, (seen ++ default.1.0, by_default)), formed, (h.3.0, weighs, h.3.3), low)
    where
      row : GroundRow
      row l = if listed l seen then h.0 l else q l

      default_plain : is_plain default.0 ≡ true
      default_plain =
          let l : (l : Label) × (listed l default.1.0 ≡ false) × (listed l [] ≡ false) = fresh_label default.1.0 [] in
          ap is_plain (sym (default.1.1 l.0 l.1)) ∙ plain l.0

      by_default : (l : Label) → listed l (seen ++ default.1.0) ≡ false → row l ≡ default.0
      by_default l e =
          let apart : (listed l seen ≡ false) × (listed l default.1.0 ≡ false) = neither (listed l seen) (listed l default.1.0) (sym (listed_append l seen default.1.0) ∙ e) in
          passed (listed l seen) (h.0 l) (q l) apart.0 ∙ default.1.1 l apart.1

      settled : (i : ℕ) → h.1.0 + rest.0 ≤ i → (l : Label) → f (at i) l ≡ row l
      settled i le l =
          by_cases (listed l seen) (λ e. h.1.1 i (omega arith) l e ∙ sym (chosen (listed l seen) (h.0 l) (q l) e))
          (λ e. rest.1 i (omega arith) l e ∙ sym (passed (listed l seen) (h.0 l) (q l) e))

      formed : (l : Label) → IsWellFormedField (row l)
      formed l =
          by_cases (listed l seen) (λ e. subst IsWellFormedField (sym (chosen (listed l seen) (h.0 l) (q l) e)) (h.2 l))
          (λ e. subst IsWellFormedField (sym (passed (listed l seen) (h.0 l) (q l) e)) (plain_formed (q l) (plain l)))

      weighs : (l : Label) → Weighs (row l) (h.3.0 l)
      weighs l =
          by_cases (listed l seen) (λ e. subst (λ g. Weighs g (h.3.0 l)) (sym (chosen (listed l seen) (h.0 l) (q l) e)) (h.3.1 l e))
          (λ e. subst (λ g. Weighs g (h.3.0 l)) (sym (passed (listed l seen) (h.0 l) (q l) e)) (plain_weighs (q l) (h.3.0 l) (plain l)))

      low : (s : Solution) → Among s → (weight : Label → ℕ) → ((l : Label) → Weighs (f s l) (weight l)) → (m : ℕ) → Sums weight m → n ≤ m
      low s among weight all m sums =
          let v : (ls : List Label) × AreDistinct ls × ((l : Label) → listed l seen ≡ false → listed l ls ≡ false) × (n ≤ total weight ls) = h.4 s among weight all in
          let before : n ≤ total weight v.0 = v.3 in
          let whole : total weight v.0 ≤ m = sums v.0 v.1 in
          omega arith

  -- off the labels seen it has one plain field
  pub row_whole : (n : ℕ) (d : GroundField) → is_plain d ≡ true → (k : ℕ) × ((i : ℕ) → k ≤ i → (l : Label) → listed l seen ≡ false → f (at i) l ≡ d)
      → Summed at Among Weighs f seen n → RowMeasured at Among f n
  row_whole n d plain rest h = row_on n (λ l. d) (λ l. plain) (d, ([], λ l e. refl)) rest h

  -- a rest that is plain in no solution
  pub row_refused : (room : ℕ) (d : Solution → GroundField) → ((s : Solution) → Among s → (l : Label) → listed l seen ≡ false → f s l ≡ d s)
      → ((s : Solution) → Among s → IsWellFormedField (d s) → Weighs (d s) 0 → ⊥) → RowMeasuring (Err fault.Clash) at Among f room
  row_refused room d rest clash s among off formed weight all sums =
      let l : (l : Label) × (listed l seen ≡ false) × (listed l off.2.0 ≡ false) = fresh_label seen off.2.0 in
      let same : d s ≡ off.0 = sym (rest s among l.0 l.1) ∙ off.2.1 l.0 l.2 in
      let plain : is_plain (d s) ≡ true = ap is_plain same ∙ off.1 in
      clash s among (plain_formed (d s) plain) (plain_weighs (d s) 0 plain)

  pub row_over : (room : ℕ) → ((s : Solution) → Among s → ((l : Label) → IsWellFormedField (f s l)) → (weight : Label → ℕ) → ((l : Label) → Weighs (f s l) (weight l)) → Sums weight room → ⊥)
      → RowMeasuring (Err fault.Clash) at Among f room
  row_over room clash s among off formed weight all sums = clash s among formed weight all sums
