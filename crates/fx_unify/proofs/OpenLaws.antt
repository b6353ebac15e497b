-- What rows count at labels that aren't listed.
use Rattle.std.proofs.Common.{◌≡◌, refl, sym, ap, subst, ◌∙◌, ℕ, ◌+◌, ◌-◌, ◌≤◌, ◌<◌, true, false, List, [], ◌∷◌, ◌++◌, append_assoc, take, get_or, length, None, option_map, Result, Ok, Err, arith}
use Rattle.std.proofs.lemmas.List.{take_more}
use Rattle.fx_base.specs.Text.{same_text}
use Rattle.fx_types.proofs.ShapeLaws.{tail_default, tail_var}
use Rattle.fx_types.specs.declared.term.FieldTy.{FieldTy}
use Rattle.fx_types.specs.declared.term.RowTy.{RowTy}
use Rattle.fx_types.specs.declared.term.Rest.TheVariants as rests
use Rattle.fx_types.specs.Term.{Label}
use Rattle.fx_types.specs.Ground.{GroundRow, g_absent, listed}
use Rattle.fx_types.specs.Instance.{Solution, ground_field, ground_tail}
use Rattle.fx_types.specs.Shape.{field_term, rest_term, row_term}
use Rattle.fx_types.specs.Size.{Weighs}
use Rattle.fx_unify.specs.declared.fault.UnifyFault.{UnifyFault}
use Rattle.fx_unify.specs.declared.fault.UnifyFault.TheVariants as fault
use Rattle.fx_unify.specs.declared.sorts.Sorts as sorts
use Rattle.fx_unify.specs.declared.store.Root as roots
use Rattle.fx_unify.specs.declared.store.Root.TheVariants as root
use Rattle.fx_unify.specs.declared.store.Store as stores
use Rattle.fx_unify.specs.Least.{RestLeads}
use Rattle.fx_unify.specs.Measure.{least, Admits, Measuring, RowMeasuring}
use Rattle.fx_unify.specs.Part.{value, Solved}
use Rattle.fx_unify.specs.Rows.{ground_row}
use Rattle.fx_unify.specs.Sorts.{plain_values}
use Rattle.fx_unify.specs.Store.{entry, root_at, rest_of, AreKept, KeepsRoot, IsFree}
use Rattle.fx_unify.specs.Sums.{Summed, Summing, row_names, row_rest}
use Rattle.fx_unify.proofs.LeastLaws.{free_slot}
use Rattle.fx_unify.proofs.MeasureLaws.{more_weight, restated_measure}
use Rattle.fx_types.proofs.Lists.{take_all}
use Rattle.fx_unify.proofs.RowLaws.{value_of, off_row}
use Rattle.fx_unify.proofs.StoreLaws.{off_kept}
use Rattle.fx_unify.proofs.SumLaws.{sum_skip, sum_add, sum_over, row_whole, row_refused, row_over}
use Rattle.fx_types.proofs.Choices.{chosen, passed, by_cases, neither}
use Rattle.fx_types.proofs.PlainLaws.{weighs_plain}
use Rattle.fx_types.proofs.RowSums.{same_is}
use Rattle.fx_unify.proofs.LabelLaws.{listed_one_more, listed_append}

pub open_row : (s : Solution) (row : RowTy) (n : ℕ) (l : Label) → row_rest row ≡ rests.Var n → listed l (row_names row) ≡ false → ground_row s (row_term row) l ≡ s.row_of n l
open_row s row n l open_rest h = off_row s row l h ∙ ap (λ t. ground_tail s t l) (ap rest_term open_rest ∙ tail_var n)

module _ (st : stores.Store) (ks : List sorts.Sorts) (row : RowTy) (number : ℕ) (open_rest : row_rest row ≡ rests.Var number) (ls : List Label) (i : ℕ) (x : Label)
    (lt : i < length ls) (at : x ≡ get_or ls i x) (sum room : ℕ)
    (before : Summed (least st ks) (Admits st ks) Weighs (λ s. ground_row s (row_term row)) (row_names row ++ take i ls) sum × (sum ≤ room)) where
  abbrev seen : List Label
  seen = row_names row ++ take i ls

  abbrev more : List Label
  more = row_names row ++ take (i + 1) ls

  abbrev Weighed : Result ℕ UnifyFault → Type 0
  Weighed w = Measuring w (least st ks) (Admits st ks) Weighs (λ s. s.row_of number x) (room - sum)

  one_more : more ≡ seen ++ x ∷ []
  one_more = ap (λ ms. row_names row ++ ms) (take_more ls i x lt ∙ ap (λ d. take i ls ++ d ∷ []) (sym at)) ∙ sym (append_assoc (row_names row) (take i ls) (x ∷ []))

  as_row : listed x (row_names row) ≡ false → (w : Result ℕ UnifyFault) → Weighed w → Measuring w (least st ks) (Admits st ks) Weighs (λ s. ground_row s (row_term row) x) (room - sum)
  as_row unlisted w h =
      restated_measure (least st ks) (Admits st ks) Weighs (λ s. ground_row s (row_term row) x) (λ s. s.row_of number x) (λ s. open_row s row number x open_rest unlisted) w (room - sum) h

  unseen : listed x (row_names row) ≡ false → listed x (take i ls) ≡ false → listed x seen ≡ false
  unseen unlisted new = listed_append x (row_names row) (take i ls) ∙ passed (listed x (row_names row)) true (listed x (take i ls)) unlisted ∙ new

  again : listed x seen ≡ true → Summed (least st ks) (Admits st ks) Weighs (λ s. ground_row s (row_term row)) more sum × (sum ≤ room)
  again h = (
    sum_skip (least st ks) (Admits st ks) Weighs (λ s. ground_row s (row_term row)) seen more sum
        (λ l. ap (listed l) one_more ∙ listed_one_more l x seen
        ∙ by_cases (same_text l x) (λ t. chosen (same_text l x) true (listed l seen) t ∙ sym (ap (λ y. listed y seen) (same_is l x t) ∙ h))
        (λ t. passed (same_text l x) true (listed l seen) t)) before.0,
    before.1,
  )

  pub slot_listed : listed x (row_names row) ≡ true → Summed (least st ks) (Admits st ks) Weighs (λ s. ground_row s (row_term row)) more sum × (sum ≤ room)
  slot_listed h = again (listed_append x (row_names row) (take i ls) ∙ chosen (listed x (row_names row)) true (listed x (take i ls)) h)

  pub slot_again : listed x (take i ls) ≡ true → Summed (least st ks) (Admits st ks) Weighs (λ s. ground_row s (row_term row)) more sum × (sum ≤ room)
  slot_again h =
      by_cases (listed x (row_names row)) slot_listed (λ f. again (listed_append x (row_names row) (take i ls) ∙ passed (listed x (row_names row)) true (listed x (take i ls)) f ∙ h))

  pub slot_counted : (w : ℕ) → listed x (row_names row) ≡ false → listed x (take i ls) ≡ false → Weighed (Ok w)
      → Summed (least st ks) (Admits st ks) Weighs (λ s. ground_row s (row_term row)) more (sum + w) × (sum + w ≤ room)
  slot_counted w unlisted new h =
      let m : Measuring (Ok w) (least st ks) (Admits st ks) Weighs (λ s. ground_row s (row_term row) x) (room - sum) = as_row unlisted (Ok w) h in (
        sum_add (least st ks) (Admits st ks) Weighs (λ s. ground_row s (row_term row)) seen more x sum w (unseen unlisted new)
            (λ l. ap (listed l) one_more ∙ listed_one_more l x seen) before.0 m.0,
        (let fits : w ≤ room - sum = m.1 in let le : sum ≤ room = before.1 in omega arith),
      )

  pub slot_light : (w : Result ℕ UnifyFault) → w ≡ Ok 0 → Weighed w → Summed (least st ks) (Admits st ks) Weighs (λ s. ground_row s (row_term row)) more sum × (sum ≤ room)
  slot_light w none h =
      by_cases (listed x (row_names row)) slot_listed
      (λ f. by_cases (listed x (take i ls)) slot_again
      (λ g. let added : Summed (least st ks) (Admits st ks) Weighs (λ s. ground_row s (row_term row)) more (sum + 0) × (sum + 0 ≤ room) = slot_counted 0 f g (subst Weighed none h) in
      let zero_more : sum + 0 ≡ sum = omega arith in
      subst (λ n. Summed (least st ks) (Admits st ks) Weighs (λ s. ground_row s (row_term row)) more n × (n ≤ room)) zero_more added))

  refused : (f : UnifyFault) (more : List Label) → listed x (row_names row) ≡ false → listed x (take i ls) ≡ false → Weighed (Err f)
      → Summing (Err f) (least st ks) (Admits st ks) Weighs (λ s. ground_row s (row_term row)) more room
  refused fault.Clash more unlisted new h =
      sum_over (least st ks) (Admits st ks) Weighs (λ s. ground_row s (row_term row)) seen x sum room more_weight (unseen unlisted new) before.1 before.0 (as_row unlisted (Err fault.Clash) h)
  refused fault.Memory more unlisted new h = tt

  pub slot_refused : (w : Result ℕ UnifyFault) (f : UnifyFault) (more : List Label) → w ≡ Err f → listed x (row_names row) ≡ false → listed x (take i ls) ≡ false → Weighed w
      → Summing (Err f) (least st ks) (Admits st ks) Weighs (λ s. ground_row s (row_term row)) more room
  slot_refused w f more is unlisted new h = refused f more unlisted new (subst Weighed is h)

  pub slot_more : (w : Result ℕ UnifyFault) (n : ℕ) → w ≡ Ok n → listed x (row_names row) ≡ false → listed x (take i ls) ≡ false → Weighed w
      → Summed (least st ks) (Admits st ks) Weighs (λ s. ground_row s (row_term row)) more (sum + n) × (sum + n ≤ room)
  slot_more w n is unlisted new h = slot_counted n unlisted new (subst Weighed is h)

pub slots_done : (st : stores.Store) (ks : List sorts.Sorts) (row : RowTy) (ls : List Label) (i sum room : ℕ) → length ls ≤ i
    → Summed (least st ks) (Admits st ks) Weighs (λ s. ground_row s (row_term row)) (row_names row ++ take i ls) sum × (sum ≤ room)
    → Summed (least st ks) (Admits st ks) Weighs (λ s. ground_row s (row_term row)) (row_names row ++ ls) sum × (sum ≤ room)
slots_done st ks row ls i sum room le h = (subst (λ xs. Summed (least st ks) (Admits st ks) Weighs (λ s. ground_row s (row_term row)) (row_names row ++ xs) sum) (take_all ls i le) h.0, h.1)

-- what the listed fields refuse is refused of any labels
pub names_refused : (st : stores.Store) (ks : List sorts.Sorts) (row : RowTy) (f : UnifyFault) (seen more : List Label) (room : ℕ)
    → Summing (Err f) (least st ks) (Admits st ks) Weighs (λ s. ground_row s (row_term row)) seen room → Summing (Err f) (least st ks) (Admits st ks) Weighs (λ s. ground_row s (row_term row)) more room
names_refused st ks row fault.Clash seen more room h = h
names_refused st ks row fault.Memory seen more room h = tt

pub slots_start : (st : stores.Store) (ks : List sorts.Sorts) (row : RowTy) (sum room : ℕ)
    → Summed (least st ks) (Admits st ks) Weighs (λ s. ground_row s (row_term row)) (row_names row) sum × (sum ≤ room)
    → Summed (least st ks) (Admits st ks) Weighs (λ s. ground_row s (row_term row)) (row_names row ++ []) sum × (sum ≤ room)
slots_start st ks row sum room h = (subst (λ ls. Summed (least st ks) (Admits st ks) Weighs (λ s. ground_row s (row_term row)) ls sum) (sym (none_more (row_names row))) h.0, h.1)
  where
    none_more : (ls : List Label) → ls ++ [] ≡ ls
    none_more [] = refl
    none_more (l ∷ ls) = ap (λ ms. l ∷ ms) (none_more ls)

-- what a row has at all other labels

module _ (st : stores.Store) (ks : List sorts.Sorts) (row : RowTy) where
  abbrev rows : Solution → GroundRow
  rows s = ground_row s (row_term row)

  pub fields_err : (seen : List Label) (f : UnifyFault) (room : ℕ) → Summing (Err f) (least st ks) (Admits st ks) Weighs rows seen room → RowMeasuring (Err f) (least st ks) (Admits st ks) rows room
  fields_err seen fault.Clash room h = row_over (least st ks) (Admits st ks) rows seen room h
  fields_err seen fault.Memory room h = tt

  default_at : (d : FieldTy) → row_rest row ≡ rests.Default d → (s : Solution) (l : Label) → listed l (row_names row) ≡ false → rows s l ≡ ground_field s (field_term d)
  default_at d rest s l off = off_row s row l off ∙ ap (λ t. ground_tail s t l) (ap rest_term rest ∙ tail_default d)

  pub closed_ok : (d : FieldTy) (n w room : ℕ) → row_rest row ≡ rests.Default d → Summed (least st ks) (Admits st ks) Weighs rows (row_names row) n × (n ≤ room)
      → Measuring (Ok w) (least st ks) (Admits st ks) Weighs (λ s. ground_field s (field_term d)) 0 → RowMeasuring (Ok n) (least st ks) (Admits st ks) rows room
  closed_ok d n w room rest before h = (
    row_whole (least st ks) (Admits st ks) rows (row_names row) n h.0.0 (weighs_plain h.0.0 w h.1 h.0.3)
        (h.0.1.0, λ i le l off. default_at d rest (least st ks i) l off ∙ h.0.1.1 i le) before.0,
    before.1,
  )

  pub closed_err : (d : FieldTy) (f : UnifyFault) (room : ℕ) → row_rest row ≡ rests.Default d
      → Measuring (Err f) (least st ks) (Admits st ks) Weighs (λ s. ground_field s (field_term d)) 0 → RowMeasuring (Err f) (least st ks) (Admits st ks) rows room
  closed_err d fault.Clash room rest h =
      row_refused (least st ks) (Admits st ks) rows (row_names row) room (λ s. ground_field s (field_term d)) (λ s among l off. default_at d rest s l off) h
  closed_err d fault.Memory room rest h = tt

  -- the row of a variable, off the labels at which it is kept apart

  module _ (ls : List Label) where
    abbrev all : List Label
    all = row_names row ++ ls

    apart : (l : Label) → listed l all ≡ false → (listed l (row_names row) ≡ false) × (listed l ls ≡ false)
    apart l off = neither (listed l (row_names row)) (listed l ls) (sym (listed_append l (row_names row) ls) ∙ off)

    way_off : (o : roots.Root) → (h : RestLeads st ls (rest_term (row_rest row)) o) → (i : ℕ) → h.0 ≤ i → (l : Label) → listed l all ≡ false → rows (least st ks i) l ≡ value (least st ks (i - h.0)) (root_at l o)
    way_off o h i le l off =
        let same : i ≡ i - h.0 + h.0 = omega arith in
        off_row (least st ks i) row l (apart l off).0 ∙ ap (λ j. ground_tail (least st ks j) (rest_term (row_rest row)) l) same
        ∙ h.1 (plain_values ks) (i - h.0) l (apart l off).1

    pub open_free : (o : roots.Root) (q n room : ℕ) → o ≡ root.Var q → RestLeads st ls (rest_term (row_rest row)) o → IsFree st o → KeepsRoot st o ls
        → Summed (least st ks) (Admits st ks) Weighs rows all n × (n ≤ room) → RowMeasuring (Ok n) (least st ks) (Admits st ks) rows room
    open_free o q n room is way free kept before =
        let none : rest_of st q ≡ None = subst (IsFree st) is free in
        let kept_there : AreKept st q ls = subst (λ x. KeepsRoot st x ls) is kept in (
          row_whole (least st ks) (Admits st ks) rows all n g_absent refl (
            way.0,
            λ i le l off. way_off o way i le l off ∙ ap (λ x. value (least st ks (i - way.0)) (root_at l x)) is
                ∙ free_slot (entry st) (plain_values ks) q l (i - way.0) (off_kept st q l (kept_there l (apart l off).1).0 (kept_there l (apart l off).1).1 ∙ ap (option_map (root_at l)) none),
          ) before.0,
          before.1,
        )

    pub open_ok : (o : roots.Root) (d : FieldTy) (n w room : ℕ) → o ≡ root.Default d → RestLeads st ls (rest_term (row_rest row)) o
        → Summed (least st ks) (Admits st ks) Weighs rows all n × (n ≤ room)
        → Measuring (Ok w) (least st ks) (Admits st ks) Weighs (λ s. ground_field s (field_term d)) 0 → RowMeasuring (Ok n) (least st ks) (Admits st ks) rows room
    open_ok o d n w room is way before h = (
      row_whole (least st ks) (Admits st ks) rows all n h.0.0 (weighs_plain h.0.0 w h.1 h.0.3) (
        h.0.1.0 + way.0,
        λ i le l off. (let first : way.0 ≤ i = omega arith in let second : h.0.1.0 ≤ i - way.0 = omega arith in
            way_off o way i first l off ∙ ap (λ x. value (least st ks (i - way.0)) (root_at l x)) is ∙ value_of (least st ks (i - way.0)) (field_term d) ∙ h.0.1.1 (i - way.0) second),
      ) before.0,
      before.1,
    )

    pub open_err : (o : roots.Root) (d : FieldTy) (f : UnifyFault) (room : ℕ) → o ≡ root.Default d
        → ((s : Solution) → Solved s (entry st) → (l : Label) → listed l ls ≡ false → value s (root_at l o) ≡ ground_tail s (rest_term (row_rest row)) l)
        → Measuring (Err f) (least st ks) (Admits st ks) Weighs (λ s. ground_field s (field_term d)) 0 → RowMeasuring (Err f) (least st ks) (Admits st ks) rows room
    open_err o d fault.Clash room is same h =
        row_refused (least st ks) (Admits st ks) rows all room (λ s. ground_field s (field_term d))
        (λ s among l off. off_row s row l (apart l off).0 ∙ sym (same s among.0 l (apart l off).1) ∙ ap (λ x. value s (root_at l x)) is ∙ value_of s (field_term d)) h
    open_err o d fault.Memory room is same h = tt
