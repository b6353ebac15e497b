-- Terms in which what is bound has been put in, part by part.
use Rattle.std.proofs.Common.{◌≡◌, sym, ap, subst, ◌∙◌, ℕ, List, [], ◌∷◌, ◌++◌, map, Option, option_map, None, inl, inr}
use Rattle.fx_types.proofs.ShapeLaws.{term_bool, term_int, term_text, term_time, term_span, term_pattern, term_done, term_variable, term_array, term_fun, term_rec, term_stream, entry_is, labelled_is, row_is, function_is, field_absent, field_is, field_var, tail_default, tail_var}
use Rattle.fx_types.specs.declared.term.FieldTy.{FieldTy}
use Rattle.fx_types.specs.declared.term.FunTy.{FunTy}
use Rattle.fx_types.specs.declared.term.LabelField.{LabelField}
use Rattle.fx_types.specs.declared.term.LabelTy.{LabelTy}
use Rattle.fx_types.specs.declared.term.Rest.{Rest}
use Rattle.fx_types.specs.declared.term.RowTy.{RowTy}
use Rattle.fx_types.specs.declared.term.Ty.{Ty}
use Rattle.fx_types.specs.declared.term.Ty.TheVariants as ty
use Rattle.fx_types.specs.declared.term.FieldTy.TheVariants as fields
use Rattle.fx_types.specs.declared.term.Rest.TheVariants as rests
use Rattle.fx_types.specs.declared.term.FieldTy.TheViews.{roll-FunTy, out-roll-FunTy, roll-RowTy, out-roll-RowTy}
use Rattle.fx_types.specs.Term.{Label, fun, rec}
use Rattle.fx_types.specs.Instance.{Solution}
use Rattle.fx_types.specs.Shape.{term, field_term, rest_term, fun_term, row_term, entry_term, label_term, labels_of, fields_of, pipe_of}
use Rattle.fx_unify.specs.declared.view.View as code
use Rattle.fx_unify.specs.declared.view.View.TheVariants as variants
use Rattle.fx_unify.specs.View.{part_seen}
use Rattle.fx_unify.specs.Part.{p_is, p_slot, value, Entries, Solved}
use Rattle.fx_unify.specs.PutIn.{IsLastField, IsPutIn, LabelsPutIn, PipePutIn, FieldPutIn, FieldsPutIn, RestPutIn}
use Rattle.fx_unify.specs.Store.{bound_to}
use Rattle.fx_unify.proofs.Cases.{Form, is_bool, is_int, is_text, is_time, is_span, is_pattern, is_done, is_variable, is_array, is_fun, is_rec, is_stream, form_of}

module _ (e : Entries) where
  -- heads

  pub term_put : (x t : Ty) → x ≡ t → IsPutIn e (term t) → IsPutIn e (term x)
  term_put x t q h = subst (λ u. IsPutIn e (term u)) (sym q) h

  pub array_put : (x : Ty) → IsPutIn e (term x) → IsPutIn e (term (ty.Array x))
  array_put x h = subst (IsPutIn e) (sym (term_array x)) h

  pub fun_put : (x : FunTy) → IsPutIn e (fun (fun_term x).required (fun_term x).pipe (fun_term x).result) → IsPutIn e (term (ty.Fun x))
  fun_put x h = subst (IsPutIn e) (sym (term_fun x)) h

  pub rec_put : (x : RowTy) → IsPutIn e (rec (row_term x).fields (row_term x).rest) → IsPutIn e (term (ty.Rec x))
  rec_put x h = subst (IsPutIn e) (sym (term_rec x)) h

  pub stream_put : (x : RowTy) → IsPutIn e (rec (row_term x).fields (row_term x).rest) → IsPutIn e (term (ty.Stream x))
  stream_put x h = subst (IsPutIn e) (sym (term_stream x)) h

  form_put : (t : Ty) → Form t → bound_to e (p_is (term t)) ≡ None → ((x : Ty) → t ≡ ty.Array x → ⊥) → ((x : FunTy) → t ≡ ty.Fun x → ⊥)
      → ((x : RowTy) → t ≡ ty.Rec x → ⊥) → ((x : RowTy) → t ≡ ty.Stream x → ⊥) → IsPutIn e (term t)
  form_put t (is_bool q) h a b c d = subst (IsPutIn e) (sym (ap term q ∙ term_bool)) tt
  form_put t (is_int q) h a b c d = subst (IsPutIn e) (sym (ap term q ∙ term_int)) tt
  form_put t (is_text q) h a b c d = subst (IsPutIn e) (sym (ap term q ∙ term_text)) tt
  form_put t (is_time q) h a b c d = subst (IsPutIn e) (sym (ap term q ∙ term_time)) tt
  form_put t (is_span q) h a b c d = subst (IsPutIn e) (sym (ap term q ∙ term_span)) tt
  form_put t (is_pattern q) h a b c d = subst (IsPutIn e) (sym (ap term q ∙ term_pattern)) tt
  form_put t (is_done q) h a b c d = subst (IsPutIn e) (sym (ap term q ∙ term_done)) tt
  form_put t (is_variable n q) h a b c d =
      subst (IsPutIn e) (sym (ap term q ∙ term_variable n)) (sym (ap (λ u. bound_to e (p_is u)) (ap term q ∙ term_variable n)) ∙ h)
  form_put t (is_array x q) h a b c d = absurd (a x q)
  form_put t (is_fun x q) h a b c d = absurd (b x q)
  form_put t (is_rec x q) h a b c d = absurd (c x q)
  form_put t (is_stream x q) h a b c d = absurd (d x q)

  -- a head without parts
  pub head_put : (t : Ty) → bound_to e (p_is (term t)) ≡ None → ((x : Ty) → t ≡ ty.Array x → ⊥) → ((x : FunTy) → t ≡ ty.Fun x → ⊥)
      → ((x : RowTy) → t ≡ ty.Rec x → ⊥) → ((x : RowTy) → t ≡ ty.Stream x → ⊥) → IsPutIn e (term t)
  head_put t h a b c d = form_put t (form_of t) h a b c d

  -- labels and fields

  pub no_labels_put : (xs : List LabelTy) → xs ≡ [] → LabelsPutIn e (labels_of (map label_term xs))
  no_labels_put xs q = subst (λ ys. LabelsPutIn e (labels_of (map label_term ys))) (sym q) tt

  last_label : (xs : List LabelTy) (x : LabelTy) → IsPutIn e (term x.ty) → LabelsPutIn e (labels_of (map label_term xs)) → LabelsPutIn e (labels_of (map label_term (xs ++ x ∷ [])))
  last_label [] x t h = (subst (λ o. IsPutIn e o.type) (sym (labelled_is x)) t, tt)
  last_label (y ∷ ys) x t h = (h.0, last_label ys x t h.1)

  pub label_put : (xs more : List LabelTy) (x : LabelTy) → more ≡ xs ++ x ∷ [] → IsPutIn e (term x.ty) → LabelsPutIn e (labels_of (map label_term xs)) → LabelsPutIn e (labels_of (map label_term more))
  label_put xs more x q t h = subst (λ ys. LabelsPutIn e (labels_of (map label_term ys))) (sym q) (last_label xs x t h)

  pub no_fields_put : (xs : List LabelField) → xs ≡ [] → FieldsPutIn e (fields_of (map entry_term xs))
  no_fields_put xs q = subst (λ ys. FieldsPutIn e (fields_of (map entry_term ys))) (sym q) tt

  last_field : (xs : List LabelField) (x : LabelField) → FieldPutIn e (field_term x.field) → FieldsPutIn e (fields_of (map entry_term xs)) → FieldsPutIn e (fields_of (map entry_term (xs ++ x ∷ [])))
  last_field [] x f h = (subst (λ o. FieldPutIn e o.field) (sym (entry_is x)) f, tt)
  last_field (y ∷ ys) x f h = (h.0, last_field ys x f h.1)

  pub field_put : (xs more : List LabelField) (x : LabelField) → more ≡ xs ++ x ∷ [] → FieldPutIn e (field_term x.field) → FieldsPutIn e (fields_of (map entry_term xs)) → FieldsPutIn e (fields_of (map entry_term more))
  field_put xs more x q f h = subst (λ ys. FieldsPutIn e (fields_of (map entry_term ys))) (sym q) (last_field xs x f h)

  -- functions and rows

  pub parts_put : (required : List LabelTy) (pipe : Option Ty) (result : Ty) → LabelsPutIn e (labels_of (map label_term required)) → PipePutIn e (pipe_of (option_map term pipe)) → IsPutIn e (term result)
      → IsPutIn e (fun (fun_term (roll-FunTy (record { required = required; pipe = pipe; result = result }))).required (fun_term (roll-FunTy (record { required = required; pipe = pipe; result = result }))).pipe
      (fun_term (roll-FunTy (record { required = required; pipe = pipe; result = result }))).result)
  parts_put required pipe result a b c =
      subst (λ o. IsPutIn e (fun o.required o.pipe o.result)) (sym (function_is (roll-FunTy (record { required = required; pipe = pipe; result = result }))))
      (subst (λ o. LabelsPutIn e (labels_of (map label_term o.required)) × PipePutIn e (pipe_of (option_map term o.pipe)) × IsPutIn e (term o.result))
      (sym (out-roll-FunTy (record { required = required; pipe = pipe; result = result }))) (a, b, c))

  pub row_put : (fs : List LabelField) (rest : Rest) → FieldsPutIn e (fields_of (map entry_term fs)) → RestPutIn e (rest_term rest)
      → IsPutIn e (rec (row_term (roll-RowTy (record { fields = fs; rest = rest }))).fields (row_term (roll-RowTy (record { fields = fs; rest = rest }))).rest)
  row_put fs rest a b =
      subst (λ o. IsPutIn e (rec o.fields o.rest)) (sym (row_is (roll-RowTy (record { fields = fs; rest = rest }))))
      (subst (λ o. FieldsPutIn e (fields_of (map entry_term o.fields)) × RestPutIn e (rest_term o.rest))
      (sym (out-roll-RowTy (record { fields = fs; rest = rest }))) (a, b))

  -- fields and rests

  pub absent_put : FieldPutIn e (field_term fields.Absent)
  absent_put = subst (FieldPutIn e) (sym field_absent) tt

  pub is_put : (x : Ty) → IsPutIn e (term x) → FieldPutIn e (field_term (fields.Is x))
  is_put x h = subst (FieldPutIn e) (sym (field_is x)) h

  pub variable_put : (n : ℕ) → IsLastField e n → FieldPutIn e (field_term (fields.Var n))
  variable_put n h = subst (FieldPutIn e) (sym (field_var n)) h

  pub free_last : (f : code.View) (n : ℕ) → f ≡ variants.Var n → bound_to e (part_seen f) ≡ None → IsLastField e n
  free_last f n q h = inl (sym (ap (λ g. bound_to e (part_seen g)) q) ∙ h)

  pub slot_last : (f : code.View) (n r : ℕ) (l : Label) → part_seen f ≡ p_slot r l → bound_to e (part_seen f) ≡ None
      → ((s : Solution) → Solved s e → value s (part_seen f) ≡ s.field_of n) → IsLastField e n
  slot_last f n r l q h same = inr (r, l, sym (ap (bound_to e) q) ∙ h, λ s solved. sym (same s solved) ∙ ap (value s) q)

  pub default_put : (f : FieldTy) → FieldPutIn e (field_term f) → RestPutIn e (rest_term (rests.Default f))
  default_put f h = subst (RestPutIn e) (sym (tail_default f)) h

  pub open_put : (n : ℕ) → RestPutIn e (rest_term (rests.Var n))
  open_put n = subst (RestPutIn e) (sym (tail_var n)) tt
