-- Rows of nothing but plain fields, which count nothing.
use Rattle.std.proofs.Common.{◌≡◌, ◌⊎◌, inl, inr, refl, sym, ap, subst, ◌∙◌, ℕ, zero, suc, ◌+◌, ◌-◌, ◌≤◌, ◌<◌, Bool, true, false, List, [], ◌∷◌, ◌++◌, get_or, set, drop, length, Option, None, Some, option_map, Result, Ok, Err, arith}
use Rattle.std.specs.Prelude.{if◌then◌else◌}
use Rattle.std.proofs.lemmas.List.{drop_more}
use Rattle.fx_base.specs.Text.{same_text}
use Rattle.fx_types.specs.declared.term.RowTy.{RowTy}
use Rattle.fx_types.specs.declared.term.Rest.TheVariants as rests
use Rattle.fx_types.specs.Term.{Label}
use Rattle.fx_types.specs.Ground.{GroundField, GroundRow, g_absent, is_plain, listed, HasDefault}
use Rattle.fx_types.specs.Instance.{Solution}
use Rattle.fx_types.specs.Shape.{row_term}
use Rattle.fx_types.specs.Size.{Weighs}
use Rattle.fx_unify.specs.declared.counts.Counts as counts
use Rattle.fx_unify.specs.declared.fault.UnifyFault.{UnifyFault}
use Rattle.fx_unify.specs.declared.sorts.Sorts as sorts
use Rattle.fx_unify.specs.declared.store.Root as roots
use Rattle.fx_unify.specs.declared.store.Root.TheVariants as root
use Rattle.fx_unify.specs.declared.store.Slot as slots
use Rattle.fx_unify.specs.declared.store.Store as stores
use Rattle.fx_unify.specs.Counted.{Counted}
use Rattle.fx_unify.specs.Decide.{FixedRow}
use Rattle.fx_unify.specs.Light.{IsLightField, AreLight, IsLight, IsLightRow, IsLightRoot}
use Rattle.fx_unify.specs.Least.{Leads, value_or}
use Rattle.fx_unify.specs.Measure.{least, Admits, Measuring, RowMeasuring}
use Rattle.fx_unify.specs.Part.{Part, part, value}
use Rattle.fx_unify.specs.Rows.{ground_row}
use Rattle.fx_unify.specs.Sorts.{plain_values}
use Rattle.fx_unify.specs.Store.{entry, root_at, slot_in, rest_in, slots_of, apart_of, rest_of}
use Rattle.fx_unify.specs.Sums.{Summing, row_names, row_rest}
use Rattle.fx_unify.proofs.DecideLaws.{plain_field}
use Rattle.fx_unify.proofs.KeptLaws.{written}
use Rattle.fx_unify.proofs.LeastLaws.{settled_before}
use Rattle.fx_unify.proofs.OpenLaws.{open_row, fields_err}
use Rattle.fx_unify.proofs.SumLaws.{row_on}
use Rattle.fx_types.proofs.Choices.{passed, neither}
use Rattle.fx_types.proofs.PlainLaws.{weighs_plain}
use Rattle.fx_unify.proofs.LabelLaws.{fresh_label, listed_append}

value_if : (g : GroundField) (s : Solution) (b : Bool) (x y : Option Part) → value_or g s (if b then x else y) ≡ (if b then value_or g s x else value_or g s y)
value_if g s true x y = refl
value_if g s false x y = refl

plain_if : (b : Bool) (g h : GroundField) → is_plain g ≡ true → is_plain h ≡ true → is_plain (if b then g else h) ≡ true
plain_if true g h p q = p
plain_if false g h p q = q

-- a default that stands at some label is plain
default_plain : (r : GroundRow) (h : (d : GroundField) × HasDefault r d) → ((l : Label) → is_plain (r l) ≡ true) → is_plain h.0 ≡ true
default_plain r h plain =
    let l : (l : Label) × (listed l h.1.0 ≡ false) × (listed l [] ≡ false) = fresh_label h.1.0 [] in
    ap is_plain (sym (h.1.1 l.0 l.1)) ∙ plain l.0

-- another field at one label, or at some labels, leaves a row light

replaced : (at : ℕ → GroundRow) (x : Label) (f : ℕ → GroundField) (g : GroundField) → ((k : ℕ) × ((i : ℕ) → k ≤ i → f i ≡ g)) → is_plain g ≡ true → IsLight at
    → IsLight (λ i l. if same_text l x then f i else at i l)
replaced at x f g fixed plain h = (
  λ l. if same_text l x then g else h.0 l,
  (fixed.0 + h.1.0, λ i le l j. if same_text l x then fixed.1 i (omega arith) j else h.1.1 i (omega arith) l j),
  λ l. plain_if (same_text l x) g (h.0 l) plain (h.2 l),
  (
    h.3.0,
    (
      x ∷ h.3.1.0,
      λ l off. (let apart : (same_text l x ≡ false) × (listed l h.3.1.0 ≡ false) = neither (same_text l x) (listed l h.3.1.0) off in
          passed (same_text l x) g (h.0 l) apart.0 ∙ h.3.1.1 l apart.1),
    ),
  ),
)

freed : (at : ℕ → GroundRow) (ls : List Label) → IsLight at → IsLight (λ i l. if listed l ls then g_absent else at i l)
freed at ls h = (
  λ l. if listed l ls then g_absent else h.0 l,
  (h.1.0, λ i le l j. if listed l ls then g_absent else h.1.1 i le l j),
  λ l. plain_if (listed l ls) g_absent (h.0 l) refl (h.2 l),
  (
    h.3.0,
    (
      ls ++ h.3.1.0,
      λ l off. (let apart : (listed l ls ≡ false) × (listed l h.3.1.0 ≡ false) = neither (listed l ls) (listed l h.3.1.0) (sym (listed_append l ls h.3.1.0) ∙ off) in
          passed (listed l ls) g_absent (h.0 l) apart.0 ∙ h.3.1.1 l apart.1),
    ),
  ),
)

same_light : (at at' : ℕ → GroundRow) → ((i : ℕ) (l : Label) → at' i l ≡ at i l) → IsLight at → IsLight at'
same_light at at' same h = (h.0, (h.1.0, λ i le l. same i l ∙ h.1.1 i le l), h.2, h.3)

module _ (st : stores.Store) (ks : List sorts.Sorts) where
  -- the row that gives what is bound its value, and Absent where nothing is
  abbrev by_steps : (Label → Option Part) → ℕ → GroundRow
  by_steps o i l = value_or g_absent (least st ks i) (o l)

  slots_light : (cs : List slots.Slot) (o : Label → Option Part) → AreLight st ks cs → IsLight (by_steps o) → IsLight (by_steps (λ l. slot_in cs l (o l)))
  slots_light [] o a h = h
  slots_light (c ∷ cs) o a h =
      same_light (λ i l. if same_text l c.label then value (least st ks i) (part c.field) else by_steps (λ m. slot_in cs m (o m)) i l) (by_steps (λ l. slot_in (c ∷ cs) l (o l)))
      (λ i l. value_if g_absent (least st ks i) (same_text l c.label) (Some (part c.field)) (slot_in cs l (o l)))
      (replaced (by_steps (λ l. slot_in cs l (o l))) c.label (λ i. value (least st ks i) (part c.field)) a.0.0 a.0.1 a.0.2 (slots_light cs o a.1 h))

  root_light : (o : Option roots.Root) → IsLightRoot st ks o → IsLight (by_steps (λ l. option_map (root_at l) o))
  root_light None h = (λ l. g_absent, (0, λ i le l. refl), λ l. refl, (g_absent, ([], λ l off. refl)))
  root_light (Some (root.Default d)) h = (λ l. h.0, (h.1.0, λ i le l. h.1.1 i le), λ l. h.2, (h.0, ([], λ l off. refl)))
  root_light (Some (root.Var q)) h = h

  apart_light : (ls : List Label) (o : Option roots.Root) → IsLightRoot st ks o → IsLight (by_steps (rest_in ls o))
  apart_light ls o h =
      same_light (λ i l. if listed l ls then g_absent else by_steps (λ m. option_map (root_at m) o) i l) (by_steps (rest_in ls o))
      (λ i l. value_if g_absent (least st ks i) (listed l ls) None (option_map (root_at l) o)) (freed (by_steps (λ l. option_map (root_at l) o)) ls (root_light o h))

  pub row_light : (r : ℕ) → AreLight st ks (slots_of st r) → IsLightRoot st ks (rest_of st r) → IsLightRow st ks r
  row_light r slots rest =
      let h : IsLight (by_steps (λ l. slot_in (slots_of st r) l (rest_in (apart_of st r) (rest_of st r) l))) =
      slots_light (slots_of st r) (rest_in (apart_of st r) (rest_of st r)) slots (apart_light (apart_of st r) (rest_of st r) rest) in
      (h.0, (suc h.1.0, λ i le l. (let same : i ≡ suc (i - 1) = omega arith in ap (λ j. (least st ks j).row_of r l) same ∙ h.1.1 (i - 1) (omega arith) l)), h.2, h.3)

  -- one field

  pub light_of : (p : Part) (room : ℕ) → Measuring (Ok 0) (least st ks) (Admits st ks) Weighs (λ s. value s p) room → IsLightField st ks p
  light_of p room h = (h.0.0, h.0.1, weighs_plain h.0.0 0 (omega arith) h.0.3)

  pub light_led : (p q : Part) → Leads (entry st) p q → IsLightField st ks q → IsLightField st ks p
  light_led p q way h = (h.0, settled_before (entry st) (plain_values ks) (λ s. value s p) (λ s. value s q) way.0 (λ n. way.1 (plain_values ks) n) h.0 h.1, h.2)

  -- one slot after the other
  pub slots_step : (cs : List slots.Slot) (i : ℕ) (c : slots.Slot) → i < length cs → c ≡ get_or cs i c → IsLightField st ks (part c.field) → (AreLight st ks (drop i cs) → AreLight st ks cs)
      → AreLight st ks (drop (i + 1) cs) → AreLight st ks cs
  slots_step cs i c lt at h before rest =
      let split : drop i cs ≡ c ∷ drop (i + 1) cs = drop_more cs i c lt ∙ ap (λ d. d ∷ drop (i + 1) cs) (sym at) in
      before (subst (AreLight st ks) (sym split) (h, rest))

  pub all_slots : (cs : List slots.Slot) (i : ℕ) → length cs ≤ i → AreLight st ks (drop i cs)
  all_slots [] zero le = tt
  all_slots [] (suc i) le = tt
  all_slots (c ∷ cs) zero le = absurd (omega arith)
  all_slots (c ∷ cs) (suc i) le = all_slots cs i (omega arith)

  -- what is known of a light row

  pub light_fixed : (r : ℕ) → IsLightRow st ks r → (k : ℕ) × FixedRow (least st ks) (λ s. s.row_of r) k
  light_fixed r h = (h.1.0, (h.0, h.1.1, ((h.3.0, default_plain h.0 h.3 h.2, h.3.1), λ l. plain_field st ks (h.0 l) (h.2 l))))

  pub light_counted : (row : RowTy) (n : ℕ) → row_rest row ≡ rests.Var n → IsLightRow st ks n → (r : Result ℕ UnifyFault) (room : ℕ)
      → Summing r (least st ks) (Admits st ks) Weighs (λ s. ground_row s (row_term row)) (row_names row) room → RowMeasuring r (least st ks) (Admits st ks) (λ s. ground_row s (row_term row)) room
  light_counted row n rest h (Ok m) room sum = (
    row_on (least st ks) (Admits st ks) (λ s. ground_row s (row_term row)) (row_names row) m h.0 h.2 h.3
        (h.1.0, λ i le l off. open_row (least st ks i) row n l rest off ∙ h.1.1 i le l) sum.0,
    sum.1,
  )
  light_counted row n rest h (Err f) room sum = fields_err st ks row (row_names row) f room sum

  pub light_kept : (c d : counts.Counts) (r : ℕ) → Counted st ks c → IsLightRow st ks r → d.rows.items ≡ set c.rows.items r true → d.types ≡ c.types → Counted st ks d
  unfolding Counted
  light_kept c d r h light rows types = (λ v n e. h.0 v n (ap (λ t. get_or t.items v None) (sym types) ∙ e), λ q e. go q e (written c.rows.items r q true false))
    where
      go : (q : ℕ) → get_or d.rows.items q false ≡ true → ((q ≡ r) × (get_or (set c.rows.items r true) q false ≡ true)) ⊎ (get_or (set c.rows.items r true) q false ≡ get_or c.rows.items q false)
          → IsLightRow st ks q
      go q e (inl x) = subst (IsLightRow st ks) (sym x.0) light
      go q e (inr x) = h.1 q (sym x ∙ sym (ap (λ is. get_or is q false) rows) ∙ e)

  pub light_known : (c : counts.Counts) (r : ℕ) → Counted st ks c → get_or c.rows.items r false ≡ true → IsLightRow st ks r
  unfolding Counted
  light_known c r h e = h.1 r e
