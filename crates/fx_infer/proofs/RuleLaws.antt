-- Rules as inference.
use Rattle.std.proofs.Common.{◌≡◌, ◌↔◌, refl, sym, ap, subst, ◌∙◌, ℕ, ◌≤◌, ◌<◌, max, Bool, true, false, List, [], ◌∷◌, map, arith}
use Rattle.std.specs.Prelude.{if◌then◌else◌}
use Rattle.fx_base.specs.Text.{same_text}
use Rattle.fx_types.specs.Agree.{Agree}
use Rattle.fx_types.specs.Ground.{Ground, GroundField, GroundRow, g_int, g_array, g_fun, g_rec, g_is}
use Rattle.fx_types.specs.Instance.{Solution, ground, ground_labels, ground_pipe, ground_fields}
use Rattle.fx_types.specs.Numbers.{numbers}
use Rattle.fx_types.specs.Shape.{term, rest_term, entry_term, fields_of}
use Rattle.fx_types.specs.Size.{IsType}
use Rattle.fx_types.specs.Term.{Label, Term, Labels, Pipe, array, fun, rec, is, type_variable, row_variable, no_fields, more_fields}
use Rattle.fx_types.specs.declared.term.LabelField.{LabelField}
use Rattle.fx_types.specs.declared.term.Rest.TheVariants as rests
use Rattle.fx_types.specs.declared.term.Ty.{Ty}
use Rattle.fx_types.specs.declared.term.Ty.TheVariants as ty
use Rattle.fx_types.proofs.AgreeLaws.{agree_less}
use Rattle.fx_types.proofs.Choices.{chosen}
use Rattle.fx_types.proofs.PartLaws.{IsTypeField, record_field}
use Rattle.fx_types.proofs.RowSums.{same_is, same_itself}
use Rattle.fx_types.proofs.ShapeLaws.{term_int, term_variable, tail_var}
use Rattle.fx_unify.specs.declared.bindings.Bindings.{Bindings}
use Rattle.fx_unify.specs.Solutions.{Solves, next_of}
use Rattle.fx_unify.specs.Work.{Within}
use Rattle.fx_unify.proofs.AskLaws.{unrestricted}
use Rattle.fx_infer.specs.Infers.{Infers, Asks, IsBelow, AreBelow, IsTypedIn}
use Rattle.fx_infer.specs.Rules.{HasField, HasElement, Gives}
use Rattle.fx_infer.proofs.FreshLaws.{with_type, with_row, there, type_agrees, row_agrees, type_within, row_within, record_row}
use Rattle.fx_infer.proofs.InfersLaws.{agree_then, both, seen_as}

-- a record with the type of a variable at the label, over the row of the same number
abbrev pub open_record : Label → ℕ → Term
open_record x n = rec (more_fields x (is (type_variable n)) no_fields) (row_variable n)

same_as_row : (c : Bool) (f g : GroundField) → (c ≡ true → f ≡ g) → (if c then f else g) ≡ g
same_as_row true f g h = h refl
same_as_row false f g h = refl

module _ (old new : Bindings) (n : ℕ) (x : Label) (of : Term) (first : n ≡ next_of old) (below : IsBelow (next_of old) of) (typed : IsTypedIn old of) (le : next_of old ≤ next_of new) (lt : n < next_of new)
    (asked : (s : Solution) → Solves s new ↔ (Solves s old × (ground s of ≡ ground s (open_record x n)))) where
  row_of : Solution → GroundRow
  row_of s l = if same_text l x then g_is (s.type_of n) else s.row_of n l

  field_there : (s : Solution) → Solves s new → HasField x (ground s of) (s.type_of n)
  field_there s h = (ground_fields s (more_fields x (is (type_variable n)) no_fields) (s.row_of n), ((asked s).0 h).1, chosen (same_text x x) (g_is (s.type_of n)) (s.row_of n x) (same_itself x))

  complete : (s : Solution) → Solves s old → Within s → (t : Ground) → HasField x (ground s of) t → (q : Solution) × Agree (next_of old) s q × Solves q new × Within q × (q.type_of n ≡ t)
  complete s h within t f =
      let r : GroundRow = f.0 in
      let q : Solution = with_row n r (with_type n t s) in
      let record_type : IsType (g_rec r) = subst IsType f.1 (typed s h) in
      let t_type : IsType t = subst IsTypeField f.2 (record_field r record_type x) in
      let agree : Agree (next_of old) s q =
      subst (λ m. Agree m s q) first (agree_then n n s (with_type n t s) q (let a : n ≤ n = omega arith in a) (type_agrees n t s) (row_agrees n r (with_type n t s))) in
      let still : Solves q old = unrestricted old s q agree h in
      let row : (q.row_of n) ≡ r = there n r s.row_of in
      let type : (q.type_of n) ≡ t = there n t s.type_of in
      let whole : (l : Label) → ground_fields q (more_fields x (is (type_variable n)) no_fields) (q.row_of n) l ≡ r l =
      λ l. (λ i. if same_text l x then g_is (type i) else row i l)
      ∙ same_as_row (same_text l x) (g_is t) (r l) (λ e. sym f.2 ∙ ap r (sym (same_is l x e))) in
      let made : ground q (open_record x n) ≡ g_rec r = λ i. g_rec (λ l. whole l i) in (
        q,
        agree,
        (asked q).1 (still, sym (below s q agree) ∙ f.1 ∙ sym made),
        row_within n r (with_type n t s) (record_row r record_type) (type_within n t s t_type within),
        type,
      )

  pub field_asked : Infers (λ s t. HasField x (ground s of) t) old new (λ s. s.type_of n)
  field_asked = record { more = le; below = λ s q agree. (agree n lt).0; keeps = λ s h. ((asked s).0 h).0; sound = field_there; complete = complete }

-- what the calls give, as one

pub field_made : (old new : Bindings) (n : ℕ) (x : Label) (of row : Ty) (fs : List LabelField) (e : LabelField) → n ≡ next_of old → IsBelow (next_of old) (term of) → IsTypedIn old (term of)
    → entry_term e ≡ record { label = x; field = is (term (ty.Var n)) } → fs ≡ e ∷ [] → term row ≡ rec (fields_of (map entry_term fs)) (rest_term (rests.Var n))
    → next_of new ≡ max (next_of old) (max (numbers (term of)) (numbers (term row))) → ((s : Solution) → Solves s new ↔ (Solves s old × (ground s (term of) ≡ ground s (term row))))
    → Infers (λ s t. HasField x (ground s (term of)) t) old new (λ s. ground s (term (ty.Var n)))
field_made old new n x of row fs e first below typed entry list made next asked =
    let shape : term row ≡ open_record x n =
    made ∙ (λ i. rec (fields_of (map entry_term (list i))) (tail_var n i)) ∙ (λ i. rec (fields_of (entry i ∷ [])) (row_variable n)) ∙ (λ i. rec (more_fields x (is (term_variable n i)) no_fields) (row_variable n)) in
    let grown : next_of new ≡ max (next_of old) (max (numbers (term of)) (numbers (open_record x n))) = next ∙ ap (λ t. max (next_of old) (max (numbers (term of)) (numbers t))) shape in
    subst (λ v. Infers (λ s t. HasField x (ground s (term of)) t) old new (λ s. ground s v)) (sym (term_variable n))
    (field_asked old new n x (term of) first below typed (omega arith) (omega arith) (subst (λ t. (s : Solution) → Solves s new ↔ (Solves s old × (ground s (term of) ≡ ground s t))) shape asked))

-- an element and a place

module _ (old mid tied new : Bindings) (of at : Term) (element whole : Term) (is_array : whole ≡ array element) (below : IsBelow (next_of old) of) (other : IsBelow (next_of old) at)
    (any : Infers (λ s t. IsType t) old mid (λ s. ground s element)) (one : Asks (λ s. ground s of ≡ ground s whole) mid tied) (two : Asks (λ s. ground s at ≡ ground s (term ty.Int)) tied new) where
  pub element_asked : Infers (λ s t. HasElement (ground s of) (ground s at) t) old new (λ s. ground s element)
  element_asked =
      seen_as (λ s x. IsType x.0 × ((ground s of ≡ g_array x.0) × (ground s at ≡ g_int))) (λ s t. HasElement (ground s of) (ground s at) t) (λ s x. x.0) old new (λ s. (ground s element, (tt, tt)))
      (both (λ s t. IsType t) (λ t s p. (ground s of ≡ g_array t) × (ground s at ≡ g_int)) old mid new (λ s. ground s element) (λ s. (tt, tt)) any
      (both (λ s u. ground s of ≡ g_array (ground s element)) (λ r s p. ground s at ≡ g_int) mid tied new (λ s. tt) (λ s. tt)
      (subst (λ t. Asks (λ s. ground s of ≡ ground s t) mid tied) is_array one) (subst (λ t. Asks (λ s. ground s at ≡ ground s t) tied new) term_int two)
      (λ r s q agree p e. sym (other s q (agree_less (next_of mid) (next_of old) s q agree any.more)) ∙ e))
      (λ t s q agree p h. (sym (below s q agree) ∙ h.0, sym (other s q agree) ∙ h.1)))
      (λ s q agree r. refl) (λ s r h. h) (λ s p h. ((p, (tt, tt)), h, refl))

-- what a function gives

module _ (old mid new : Bindings) (of result function : Term) (args : Labels) (pipe : Pipe) (is_function : function ≡ fun args pipe result) (below : IsBelow (next_of old) of)
    (given : AreBelow (next_of old) args pipe)
    (any : Infers (λ s t. IsType t) old mid (λ s. ground s result)) (one : Asks (λ s. ground s of ≡ ground s function) mid new) where
  pub result_asked : Infers (λ s t. Gives (ground s of) (ground_labels s args) (ground_pipe s pipe) t) old new (λ s. ground s result)
  result_asked =
      seen_as (λ s x. IsType x.0 × (ground s of ≡ g_fun (ground_labels s args) (ground_pipe s pipe) x.0)) (λ s t. Gives (ground s of) (ground_labels s args) (ground_pipe s pipe) t) (λ s x. x.0) old new
      (λ s. (ground s result, tt))
      (both (λ s t. IsType t) (λ t s p. ground s of ≡ g_fun (ground_labels s args) (ground_pipe s pipe) t) old mid new (λ s. ground s result) (λ s. tt) any
      (subst (λ t. Asks (λ s. ground s of ≡ ground s t) mid new) is_function one)
      (λ t s q agree p h. sym (below s q agree) ∙ h ∙ (λ i. g_fun ((given s q agree).0 i) ((given s q agree).1 i) t)))
      (λ s q agree r. refl) (λ s r h. h) (λ s p h. ((p, tt), h, refl))
