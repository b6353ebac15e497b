-- Ways that were followed to their ends.
use Rattle.std.proofs.Common.{◌≡◌, ◌⊎◌, inl, inr, refl, sym, ap, subst, ◌∙◌, ℕ, zero, suc, ◌+◌, ◌≤◌, ◌<◌, true, false, List, [], ◌∷◌, ◌++◌, take, length, get_or, None, option_map, arith}
use Rattle.std.specs.Prelude.{if◌then◌else◌}
use Rattle.std.proofs.lemmas.List.{take_more}
use Rattle.fx_base.specs.Text.{same_text}
use Rattle.fx_types.specs.declared.term.FieldTy.{FieldTy}
use Rattle.fx_types.specs.declared.term.Rest.TheVariants as rests
use Rattle.fx_types.specs.declared.term.Ty.{Ty}
use Rattle.fx_types.specs.declared.term.Ty.TheVariants as ty
use Rattle.fx_types.specs.Ground.{listed}
use Rattle.fx_types.specs.Instance.{Solution, ground_tail}
use Rattle.fx_types.specs.Shape.{term, field_term, rest_term}
use Rattle.fx_types.specs.Term.{Label, bool, int, text, time, span, pattern, done, type_variable, array, fun, rec, stream}
use Rattle.fx_types.proofs.Choices.{by_cases, passed}
use Rattle.fx_types.proofs.RowSums.{same_is}
use Rattle.fx_types.proofs.ShapeLaws.{term_variable, tail_var}
use Rattle.fx_unify.specs.declared.store.Root as roots
use Rattle.fx_unify.specs.declared.store.Root.TheVariants as root
use Rattle.fx_unify.specs.declared.store.Store as stores
use Rattle.fx_unify.specs.declared.view.View as views
use Rattle.fx_unify.specs.Least.{steps, Leads, RowLeads, RestLeads}
use Rattle.fx_unify.specs.Part.{Part, p_absent, p_is, p_field, p_slot, part, part_of, value, Entries, Solved}
use Rattle.fx_unify.specs.Store.{entry, root_at, bound_to, rest_of, slots_of, apart_of, slot_names, IsFree, KeepsRoot}
use Rattle.fx_unify.specs.View.{part_seen}
use Rattle.fx_unify.proofs.DecideLaws.{no_item}
use Rattle.fx_unify.proofs.LabelLaws.{listed_one_more}
use Rattle.fx_unify.proofs.LeastLaws.{leads_nowhere}
use Rattle.fx_generalize.specs.Open.{EndsAt, Ends, RowEnds, RootEnds, HasEnds}
use Rattle.fx_generalize.proofs.OpenLaws.{free_row}

lt_or_le : (n m : ℕ) → (n < m) ⊎ (m ≤ n)
lt_or_le zero zero = inr (omega arith)
lt_or_le zero (suc m) = inl (omega arith)
lt_or_le (suc n) zero = inr (omega arith)
lt_or_le (suc n) (suc m) = go (lt_or_le n m)
  where
    go : (n < m) ⊎ (m ≤ n) → (suc n < suc m) ⊎ (suc m ≤ suc n)
    go (inl h) = inl (omega arith)
    go (inr h) = inr (omega arith)

-- what holds at each label that was seen

pub listed_step : (P : Label → Type 0) (ls : List Label) (i : ℕ) (x : Label) → i < length ls → x ≡ get_or ls i x → ((l : Label) → listed l (take i ls) ≡ true → P l) → P x
    → (l : Label) → listed l (take (i + 1) ls) ≡ true → P l
listed_step P ls i x lt at h here l there =
    let next : take (i + 1) ls ≡ take i ls ++ x ∷ [] = take_more ls i x lt ∙ ap (λ d. take i ls ++ d ∷ []) (sym at) in
    let either : (if same_text l x then true else listed l (take i ls)) ≡ true = sym (listed_one_more l x (take i ls)) ∙ ap (listed l) (sym next) ∙ there in
    by_cases (same_text l x) (λ e. subst P (sym (same_is l x e)) here) (λ e. h l (sym (passed (same_text l x) true (listed l (take i ls)) e) ∙ either))

-- parts

pub ends_here : (e : Entries) (p : Part) → bound_to e p ≡ None → Ends e p
ends_here e p free = (p, (leads_nowhere e p, free, λ s solved. refl))

pub type_seen : (e : Entries) (n : ℕ) (h : Ty) → Leads e (p_is (term (ty.Var n))) (p_is (term h)) → bound_to e (p_is (term h)) ≡ None
    → ((s : Solution) → Solved s e → value s (p_is (term h)) ≡ value s (p_is (term (ty.Var n)))) → Ends e (p_is (type_variable n))
type_seen e n h leads free same = subst (λ u. Ends e (p_is u)) (term_variable n) (p_is (term h), (leads, free, same))

ends_after : (e : Entries) (p mid : Part) → Leads e p mid → ((s : Solution) → Solved s e → value s mid ≡ value s p) → Ends e mid → Ends e p
ends_after e p mid leads same h = (
  h.0,
  (
    (h.1.0.0 + leads.0, λ plain n. (let split : n + (h.1.0.0 + leads.0) ≡ n + h.1.0.0 + leads.0 = omega arith in ap (λ i. value (steps e plain i) p) split ∙ leads.1 plain (n + h.1.0.0) ∙ h.1.0.1 plain n)),
    h.1.1,
    λ s solved. h.1.2 s solved ∙ same s solved,
  ),
)

-- rows

module _ (st : stores.Store) (r : ℕ) (ls : List Label) where
  module _ (o : roots.Root) (leads : RestLeads st ls (rest_term (rests.Var r)) o)
      (same : (s : Solution) → Solved s (entry st) → (l : Label) → listed l ls ≡ false → value s (root_at l o) ≡ ground_tail s (rest_term (rests.Var r)) l) where
    row_leads : RowLeads st ls r o
    row_leads = (leads.0, λ plain n l off. ap (λ t. ground_tail (steps (entry st) plain (n + leads.0)) t l) (sym (tail_var r)) ∙ leads.1 plain n l off)

    row_same : (s : Solution) → Solved s (entry st) → (l : Label) → listed l ls ≡ false → value s (root_at l o) ≡ s.row_of r l
    row_same s solved l off = same s solved l off ∙ ap (λ t. ground_tail s t l) (tail_var r)

  slot_ends : (o : roots.Root) → RowLeads st ls r o → ((s : Solution) → Solved s (entry st) → (l : Label) → listed l ls ≡ false → value s (root_at l o) ≡ s.row_of r l)
      → IsFree st o → KeepsRoot st o ls → RootEnds st o → (l : Label) → listed l ls ≡ false → Ends (entry st) (p_slot r l)
  slot_ends (root.Var q) leads same free kept end l off =
      (p_slot q l, ((leads.0, λ plain n. leads.1 plain n l off), free_row st q ls free kept l off, λ s solved. same s solved l off))
  slot_ends (root.Default d) leads same free kept end l off =
      ends_after (entry st) (p_slot r l) (part_of (field_term d)) (leads.0, λ plain n. leads.1 plain n l off) (λ s solved. same s solved l off) end

  pub row_seen : (o : roots.Root) → RestLeads st ls (rest_term (rests.Var r)) o
      → ((s : Solution) → Solved s (entry st) → (l : Label) → listed l ls ≡ false → value s (root_at l o) ≡ ground_tail s (rest_term (rests.Var r)) l)
      → IsFree st o → KeepsRoot st o ls → ((l : Label) → listed l ls ≡ true → Ends (entry st) (p_slot r l)) → RootEnds st o → RowEnds st r × ((l : Label) → Ends (entry st) (p_slot r l))
  row_seen o leads same free kept slots end = (
    (ls, o, row_leads o leads same, free, kept, row_same o leads same),
    λ l. by_cases (listed l ls) (λ e. slots l e) (λ e. slot_ends o (row_leads o leads same) (row_same o leads same) free kept end l e),
  )

pub row_past : (st : stores.Store) (r : ℕ) → length st.slots.items ≤ r → length st.apart.items ≤ r → length st.rests.items ≤ r → RowEnds st r × ((l : Label) → Ends (entry st) (p_slot r l))
row_past st r slots apart rests = (
  (
    [],
    root.Var r,
    (0, λ plain n l off. (let same : n + 0 ≡ n = omega arith in ap (λ i. (steps (entry st) plain i).row_of r l) same)),
    free,
    kept,
    λ s solved l off. refl,
  ),
  λ l. ends_here (entry st) (p_slot r l) (free_row st r [] free kept l refl),
)
  where
    free : rest_of st r ≡ None
    free = no_item st.rests.items r None rests

    kept : (l : Label) → listed l [] ≡ false → (listed l (slot_names (slots_of st r)) ≡ false) × (listed l (apart_of st r) ≡ false)
    kept l off = (ap (λ cs. listed l (slot_names cs)) (no_item st.slots.items r [] slots), ap (listed l) (no_item st.apart.items r [] apart))

-- all variables

module _ (st : stores.Store) (count : ℕ) (types : length st.types.items ≤ count) (fields : length st.fields.items ≤ count) (slots : length st.slots.items ≤ count) (apart : length st.apart.items ≤ count)
    (rests : length st.rests.items ≤ count) (seen_types : (n : ℕ) → n < count → Ends (entry st) (p_is (type_variable n))) (seen_fields : (n : ℕ) → n < count → Ends (entry st) (p_field n))
    (seen_rows : (r : ℕ) → r < count → RowEnds st r × ((l : Label) → Ends (entry st) (p_slot r l))) where
  row_all : (r : ℕ) → RowEnds st r × ((l : Label) → Ends (entry st) (p_slot r l))
  row_all r = go (lt_or_le r count)
    where
      go : (r < count) ⊎ (count ≤ r) → RowEnds st r × ((l : Label) → Ends (entry st) (p_slot r l))
      go (inl less) = seen_rows r less
      go (inr more) = row_past st r (omega arith) (omega arith) (omega arith)

  type_all : (n : ℕ) → Ends (entry st) (p_is (type_variable n))
  type_all n = go (lt_or_le n count)
    where
      go : (n < count) ⊎ (count ≤ n) → Ends (entry st) (p_is (type_variable n))
      go (inl less) = seen_types n less
      go (inr more) = ends_here (entry st) (p_is (type_variable n)) (ap (λ o. option_map (λ t. p_is (term t)) o) (no_item st.types.items n None (omega arith)))

  field_all : (n : ℕ) → Ends (entry st) (p_field n)
  field_all n = go (lt_or_le n count)
    where
      go : (n < count) ⊎ (count ≤ n) → Ends (entry st) (p_field n)
      go (inl less) = seen_fields n less
      go (inr more) = ends_here (entry st) (p_field n) (ap (λ o. option_map part o) (no_item st.fields.items n None (omega arith)))

  part_all : (p : Part) → Ends (entry st) p
  part_all p_absent = ends_here (entry st) p_absent refl
  part_all (p_field n) = field_all n
  part_all (p_slot r l) = (row_all r).1 l
  part_all (p_is (type_variable n)) = type_all n
  part_all (p_is bool) = ends_here (entry st) (p_is bool) refl
  part_all (p_is int) = ends_here (entry st) (p_is int) refl
  part_all (p_is text) = ends_here (entry st) (p_is text) refl
  part_all (p_is time) = ends_here (entry st) (p_is time) refl
  part_all (p_is span) = ends_here (entry st) (p_is span) refl
  part_all (p_is pattern) = ends_here (entry st) (p_is pattern) refl
  part_all (p_is done) = ends_here (entry st) (p_is done) refl
  part_all (p_is (array t)) = ends_here (entry st) (p_is (array t)) refl
  part_all (p_is (fun ls p t)) = ends_here (entry st) (p_is (fun ls p t)) refl
  part_all (p_is (rec fs r)) = ends_here (entry st) (p_is (rec fs r)) refl
  part_all (p_is (stream fs r)) = ends_here (entry st) (p_is (stream fs r)) refl

  pub all_seen : HasEnds st
  all_seen = (part_all, λ r. (row_all r).0)

pub default_seen : (st : stores.Store) (o : roots.Root) (d : FieldTy) (v : views.View) → o ≡ root.Default d → part_seen v ≡ part_of (field_term d) → (q : Part) → EndsAt (entry st) (part_seen v) q → RootEnds st o
default_seen st o d v at same q h = subst (RootEnds st) (sym at) (subst (Ends (entry st)) same (q, h))
