-- Rows of records as inference.
use Rattle.std.proofs.Common.{◌≡◌, ◌↔◌, refl, sym, ap, subst, ◌∙◌, ℕ, ◌≤◌, ◌<◌, max, List, [], ◌∷◌, ◌++◌, map, arith}
use Rattle.std.specs.Prelude.{if◌then◌else◌}
use Rattle.fx_base.specs.Text.{same_text}
use Rattle.fx_types.specs.Agree.{Agree}
use Rattle.fx_types.specs.Ground.{GroundRow, g_rec, g_absent}
use Rattle.fx_types.specs.Instance.{Solution, ground, ground_field, ground_fields, ground_tail}
use Rattle.fx_types.specs.Numbers.{numbers}
use Rattle.fx_types.specs.Shape.{rest_term, entry_term, fields_of}
use Rattle.fx_types.specs.Size.{IsType}
use Rattle.fx_types.specs.Term.{Label, Term, rec, is, default, row_variable, no_fields, more_fields}
use Rattle.fx_types.specs.declared.term.FieldTy.TheVariants as fields
use Rattle.fx_types.specs.declared.term.LabelField.{LabelField}
use Rattle.fx_types.specs.declared.term.Rest.TheVariants as rests
use Rattle.fx_types.proofs.AgreeLaws.{agree_term}
use Rattle.fx_types.proofs.ShapeLaws.{field_absent, tail_default, tail_var}
use Rattle.fx_schemes.specs.Line.{put}
use Rattle.fx_unify.specs.declared.bindings.Bindings.{Bindings}
use Rattle.fx_unify.specs.Solutions.{Solves, next_of}
use Rattle.fx_unify.specs.Work.{Within}
use Rattle.fx_unify.proofs.AskLaws.{unrestricted}
use Rattle.fx_infer.specs.Infers.{Infers, IsBelow, IsTypedIn}
use Rattle.fx_infer.proofs.FreshLaws.{with_row, there, row_agrees, row_within, record_row}
use Rattle.fx_infer.proofs.InfersLaws.{same}

-- a term that is asked to be a type
pub fitted : (old new : Bindings) (t : Term) → ((s : Solution) → Solves s new ↔ (Solves s old × IsType (ground s t))) → next_of new ≡ max (next_of old) (numbers t) → Infers (λ s g. IsType g × (g ≡ ground s t)) old new (λ s. ground s t)
fitted old new t fits next = record {
  more = omega arith;
  below = λ s q agree. agree_term (next_of new) s q agree t (omega arith);
  keeps = λ s h. ((fits s).0 h).0;
  sound = λ s h. (((fits s).0 h).1, refl);
  complete = λ s h within g d. (s, (λ i lt. (refl, refl, refl)), (fits s).1 (h, subst IsType d.1 d.0), within, sym d.1);
}

-- the row with nothing
pub nothing_found : (b : Bindings) → Infers (λ s r. r ≡ (λ l. g_absent)) b b (λ s. ground_tail s (rest_term (rests.Default fields.Absent)))
nothing_found b =
    let shape : rest_term (rests.Default fields.Absent) ≡ default _ = tail_default fields.Absent ∙ ap default field_absent in
    subst (λ t. Infers (λ s r. r ≡ (λ l. g_absent)) b b (λ s. ground_tail s t)) (sym shape) (same (λ s r. r ≡ (λ l. g_absent)) b (λ l. g_absent) (λ s. refl) (λ s p h. sym h))

-- the row of a record: that of a new variable
abbrev pub any_record : ℕ → Term
any_record n = rec no_fields (row_variable n)

module _ (old new : Bindings) (n : ℕ) (of : Term) (first : n ≡ next_of old) (below : IsBelow (next_of old) of) (typed : IsTypedIn old of) (le : next_of old ≤ next_of new) (lt : n < next_of new)
    (asked : (s : Solution) → Solves s new ↔ (Solves s old × (ground s of ≡ ground s (any_record n)))) where
  complete : (s : Solution) → Solves s old → Within s → (r : GroundRow) → ground s of ≡ g_rec r → (q : Solution) × Agree (next_of old) s q × Solves q new × Within q × (q.row_of n ≡ r)
  complete s h within r f =
      let q : Solution = with_row n r s in
      let agree : Agree (next_of old) s q = subst (λ m. Agree m s q) first (row_agrees n r s) in
      let still : Solves q old = unrestricted old s q agree h in
      let row : (q.row_of n) ≡ r = there n r s.row_of in
      (q, agree, (asked q).1 (still, sym (below s q agree) ∙ f ∙ sym (ap g_rec row)), row_within n r s (record_row r (subst IsType f (typed s h))) within, row)

  pub row_asked : Infers (λ s r. ground s of ≡ g_rec r) old new (λ s. s.row_of n)
  row_asked = record { more = le; below = λ s q agree. (agree n lt).2; keeps = λ s h. ((asked s).0 h).0; sound = λ s h. ((asked s).0 h).1; complete = complete }

-- what the calls give, as one
pub row_made : (old new : Bindings) (n : ℕ) (of whole : Term) (fs : List LabelField) → n ≡ next_of old → IsBelow (next_of old) of → IsTypedIn old of → fs ≡ [] → whole ≡ rec (fields_of (map entry_term fs)) (rest_term (rests.Var n))
    → next_of new ≡ max (next_of old) (max (numbers of) (numbers whole)) → ((s : Solution) → Solves s new ↔ (Solves s old × (ground s of ≡ ground s whole)))
    → Infers (λ s r. ground s of ≡ g_rec r) old new (λ s. ground_tail s (rest_term (rests.Var n)))
row_made old new n of whole fs first below typed empty made next asked =
    let shape : whole ≡ any_record n = made ∙ (λ i. rec (fields_of (map entry_term (empty i))) (tail_var n i)) in
    let grown : next_of new ≡ max (next_of old) (max (numbers of) (numbers (any_record n))) = next ∙ ap (λ t. max (next_of old) (max (numbers of) (numbers t))) shape in
    subst (λ t. Infers (λ s r. ground s of ≡ g_rec r) old new (λ s. ground_tail s t)) (sym (tail_var n))
    (row_asked old new n of first below typed (omega arith) (omega arith) (subst (λ t. (s : Solution) → Solves s new ↔ (Solves s old × (ground s of ≡ ground s t))) shape asked))

-- one entry more
pub fields_last : (s : Solution) (fs : List LabelField) (e : LabelField) (x : Label) (t : Term) → entry_term e ≡ record { label = x; field = is t } → (r : GroundRow) (l : Label)
    → ground_fields s (fields_of (map entry_term (fs ++ e ∷ []))) r l ≡ ground_fields s (fields_of (map entry_term fs)) (put x (ground s t) r) l
fields_last s [] e x t entry r l = ap (λ o. ground_fields s (more_fields o.label o.field no_fields) r l) entry
fields_last s (f ∷ fs) e x t entry r l = ap (λ g. if same_text l (entry_term f).label then ground_field s (entry_term f).field else g) (fields_last s fs e x t entry r l)
