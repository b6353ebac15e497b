use Rattle.std.proofs.Common.{sym, ap, subst, ◌∙◌}
use Rattle.std.specs.Prelude.{option_map}
use Rattle.fx_types.specs.Ground.{g_is}
use Rattle.fx_types.specs.Instance.{ground, ground_field, ground_pipe, ground_tail}
use Rattle.fx_types.specs.Shape.{term, field_term, rest_term, fun_term, row_term, pipe_of}
use Rattle.fx_types.specs.Term.{fun, rec}
use Rattle.fx_types.proofs.ShapeLaws.{field_absent, field_is, field_var}
use Rattle.fx_unify.specs.Part.{value}
use Rattle.fx_unify.specs.PutIn.{IsPutIn}
use Rattle.fx_unify.specs.Rows.{ground_row}
use Rattle.fx_unify.specs.Store.{entry}
use Rattle.fx_unify.specs.View.{part_seen}
use Rattle.fx_unify.proofs.ApplyLaws.{label_added, labels_all, field_added, fields_all, parts_same, row_same, array_same, fun_same, rec_same, stream_same, copy_same, is_same, variable_same, default_same, start_labels, start_fields}
use Rattle.fx_unify.proofs.PutInLaws.{term_put, array_put, fun_put, rec_put, stream_put, head_put, no_labels_put, label_put, no_fields_put, field_put, parts_put, row_put, absent_put, is_put, variable_put, free_last, slot_last, default_put, open_put}
use Rattle.fx_unify.proofs.RowLaws.{if_ok}
use Rattle.fx_unify.proofs.store.Store.+apply.Goals as goal

pub apply_element-returns-clause-same : goal.apply_element-returns-clause-same
apply_element-returns-clause-same t c =
    if_ok c.new.result (λ x e s solved. ap (λ u. ground s (term u)) e ∙ c.in_ok-ty.ensures.same s solved ∙ ap (λ u. ground s (term u)) c.get.ensures) c.new.ensures

pub apply_element-returns-clause-put_in : goal.apply_element-returns-clause-put_in
apply_element-returns-clause-put_in t c =
    if_ok c.new.result (λ x q. term_put (entry c.args.self.now) x c.in_ok-ty.ty q c.in_ok-ty.ensures.put_in) c.new.ensures

pub apply_field-returns-in-Absent-clause-same : goal.apply_field-returns-in-Absent-clause-same
apply_field-returns-in-Absent-clause-same t c =
    λ s solved. ap (λ f. ground_field s (field_term f)) (sym c.in-Absent.is)

pub apply_field-returns-in-Absent-clause-put_in : goal.apply_field-returns-in-Absent-clause-put_in
apply_field-returns-in-Absent-clause-put_in t c =
    absent_put (entry c.args.self.now)

pub apply_field-returns-in_ok-apply_type-in-Is-clause-same : goal.apply_field-returns-in_ok-apply_type-in-Is-clause-same
apply_field-returns-in_ok-apply_type-in-Is-clause-same t c =
    λ s solved. is_same s c.in_ok-apply_type-in-Is.field-0 c.in-Is.ty c.args.field.now c.in-Is.is (c.in_ok-apply_type-in-Is.ensures.same s solved)

pub apply_field-returns-in_ok-apply_type-in-Is-clause-put_in : goal.apply_field-returns-in_ok-apply_type-in-Is-clause-put_in
apply_field-returns-in_ok-apply_type-in-Is-clause-put_in t c =
    is_put (entry c.args.self.now) c.in_ok-apply_type-in-Is.field-0 c.in_ok-apply_type-in-Is.ensures.put_in

pub apply_field-returns-in-Var-clause-same : goal.apply_field-returns-in-Var-clause-same
apply_field-returns-in-Var-clause-same t c =
    if_ok c.apply_variable.result (λ x h s solved. variable_same s x c.args.field.now c.in-Var.number c.in-Var.is (h s solved)) c.apply_variable.ensures.same

pub apply_field-returns-in-Var-clause-put_in : goal.apply_field-returns-in-Var-clause-put_in
apply_field-returns-in-Var-clause-put_in t c =
    c.apply_variable.ensures.put_in

pub apply_fields-returns-clause-same : goal.apply_fields-returns-clause-same
apply_fields-returns-clause-same t c =
    λ s solved. row_same s c.args.row.now c.in_ok-fields.fields c.in_ok-rest.rest (c.in_ok-fields.ensures.same s solved) (c.in_ok-rest.ensures.same s solved)

pub apply_fields-returns-clause-put_in : goal.apply_fields-returns-clause-put_in
apply_fields-returns-clause-put_in t c =
    row_put (entry c.args.self.now) c.in_ok-fields.fields c.in_ok-rest.rest c.in_ok-fields.ensures.put_in c.in_ok-rest.ensures.put_in

pub apply_function-returns-clause-same : goal.apply_function-returns-clause-same
apply_function-returns-clause-same t c =
    if_ok c.new.result (λ x e s solved. ap (λ u. ground s (fun (fun_term u).required (fun_term u).pipe (fun_term u).result)) e ∙ c.in_ok-applied.ensures.same s solved ∙ ap (λ u. ground s (fun (fun_term u).required (fun_term u).pipe (fun_term u).result)) c.get.ensures) c.new.ensures

pub apply_function-returns-clause-put_in : goal.apply_function-returns-clause-put_in
apply_function-returns-clause-put_in t c =
    if_ok c.new.result (λ x q. subst (λ u. IsPutIn (entry c.args.self.now) (fun (fun_term u).required (fun_term u).pipe (fun_term u).result)) (sym q) c.in_ok-applied.ensures.put_in) c.new.ensures

pub apply_labels-loop-entry-init : goal.apply_labels-loop-entry-init
apply_labels-loop-entry-init t c =
    (λ s solved. start_labels s c.empty-applied.result c.empty-applied.ensures, no_labels_put (entry c.args.self.now) c.empty-applied.result c.empty-applied.ensures)

pub apply_labels-loop-entry-preserved : goal.apply_labels-loop-entry-preserved
apply_labels-loop-entry-preserved t c = (
  λ s solved. label_added s c.loop-entry.applied c.push.new.self c.as_slice-entry-items.result.now c.loop-entry.entry-index (record { label = c.in_ok-label.label; ty = c.in_ok-ty.ty }) c.entry-item.result
      c.in_ok-push.ensures.ok c.in_ok-label.ensures (c.in_ok-ty.ensures.same s solved) c.loop-entry-test.true c.entry-item.is (c.loop-entry.invariant.0 s solved),
  label_put (entry c.args.self.now) c.loop-entry.applied c.push.new.self (record { label = c.in_ok-label.label; ty = c.in_ok-ty.ty }) c.in_ok-push.ensures.ok c.in_ok-ty.ensures.put_in c.loop-entry.invariant.1,
)

pub apply_labels-returns-clause-same : goal.apply_labels-returns-clause-same
apply_labels-returns-clause-same t c =
    λ s solved. labels_all s c.loop-entry.applied c.as_slice-entry-items.result.now c.args.labels.now c.loop-entry.entry-index c.as_slice-entry-items.ensures c.loop-entry-test.false (c.loop-entry.invariant.0 s solved)

pub apply_labels-returns-clause-put_in : goal.apply_labels-returns-clause-put_in
apply_labels-returns-clause-put_in t c =
    c.loop-entry.invariant.1

pub apply_listed-loop-entry-init : goal.apply_listed-loop-entry-init
apply_listed-loop-entry-init t c =
    (λ s solved. start_fields s c.empty-applied.result c.empty-applied.ensures, no_fields_put (entry c.args.self.now) c.empty-applied.result c.empty-applied.ensures)

pub apply_listed-loop-entry-preserved : goal.apply_listed-loop-entry-preserved
apply_listed-loop-entry-preserved t c = (
  λ s solved. field_added s c.loop-entry.applied c.push.new.self c.as_slice-entry-items.result.now c.loop-entry.entry-index (record { label = c.in_ok-label.label; field = c.in_ok-field.field }) c.entry-item.result
      c.in_ok-push.ensures.ok c.in_ok-label.ensures (c.in_ok-field.ensures.same s solved) c.loop-entry-test.true c.entry-item.is (c.loop-entry.invariant.0 s solved),
  field_put (entry c.args.self.now) c.loop-entry.applied c.push.new.self (record { label = c.in_ok-label.label; field = c.in_ok-field.field }) c.in_ok-push.ensures.ok c.in_ok-field.ensures.put_in c.loop-entry.invariant.1,
)

pub apply_listed-returns-clause-same : goal.apply_listed-returns-clause-same
apply_listed-returns-clause-same t c =
    λ s solved. fields_all s c.loop-entry.applied c.as_slice-entry-items.result.now c.args.fields.now c.loop-entry.entry-index c.as_slice-entry-items.ensures c.loop-entry-test.false (c.loop-entry.invariant.0 s solved)

pub apply_listed-returns-clause-put_in : goal.apply_listed-returns-clause-put_in
apply_listed-returns-clause-put_in t c =
    c.loop-entry.invariant.1

pub apply_parts-returns-clause-same : goal.apply_parts-returns-clause-same
apply_parts-returns-clause-same t c =
    λ s solved. parts_same s c.args.function.now c.in_ok-required.required c.in_ok-pipe.pipe c.in_ok-result.result (c.in_ok-required.ensures.same s solved) (c.in_ok-pipe.ensures.same s solved) (c.in_ok-result.ensures.same s solved)

pub apply_parts-returns-clause-put_in : goal.apply_parts-returns-clause-put_in
apply_parts-returns-clause-put_in t c =
    parts_put (entry c.args.self.now) c.in_ok-required.required c.in_ok-pipe.pipe c.in_ok-result.result c.in_ok-required.ensures.put_in c.in_ok-pipe.ensures.put_in c.in_ok-result.ensures.put_in

pub apply_pipe-returns-in_ok-apply_type-in-Some-clause-same : goal.apply_pipe-returns-in_ok-apply_type-in-Some-clause-same
apply_pipe-returns-in_ok-apply_type-in-Some-clause-same t c =
    λ s solved. ap g_is (c.in_ok-apply_type-in-Some.ensures.same s solved) ∙ ap (λ p. ground_pipe s (pipe_of (option_map term p))) (sym c.in-Some.is)

pub apply_pipe-returns-in_ok-apply_type-in-Some-clause-put_in : goal.apply_pipe-returns-in_ok-apply_type-in-Some-clause-put_in
apply_pipe-returns-in_ok-apply_type-in-Some-clause-put_in t c =
    c.in_ok-apply_type-in-Some.ensures.put_in

pub apply_pipe-returns-in-None-clause-same : goal.apply_pipe-returns-in-None-clause-same
apply_pipe-returns-in-None-clause-same t c =
    λ s solved. ap (λ p. ground_pipe s (pipe_of (option_map term p))) (sym c.in-None.is)

pub apply_rest-returns-in_ok-apply_field-in-Default-clause-same : goal.apply_rest-returns-in_ok-apply_field-in-Default-clause-same
apply_rest-returns-in_ok-apply_field-in-Default-clause-same t c =
    λ s solved l. default_same s c.in_ok-apply_field-in-Default.field-0 c.in-Default.field c.args.rest.now c.in-Default.is (c.in_ok-apply_field-in-Default.ensures.same s solved) l

pub apply_rest-returns-in_ok-apply_field-in-Default-clause-put_in : goal.apply_rest-returns-in_ok-apply_field-in-Default-clause-put_in
apply_rest-returns-in_ok-apply_field-in-Default-clause-put_in t c =
    default_put (entry c.args.self.now) c.in_ok-apply_field-in-Default.field-0 c.in_ok-apply_field-in-Default.ensures.put_in

pub apply_rest-returns-in-Var-clause-same : goal.apply_rest-returns-in-Var-clause-same
apply_rest-returns-in-Var-clause-same t c =
    λ s solved l. ap (λ r. ground_tail s (rest_term r) l) (sym c.in-Var.is)

pub apply_rest-returns-in-Var-clause-put_in : goal.apply_rest-returns-in-Var-clause-put_in
apply_rest-returns-in-Var-clause-put_in t c =
    open_put (entry c.args.self.now) c.in-Var.number

pub apply_row-returns-clause-same : goal.apply_row-returns-clause-same
apply_row-returns-clause-same t c =
    if_ok c.new.result (λ x e s solved l. ap (λ u. ground_row s (row_term u) l) e ∙ c.in_ok-applied.ensures.same s solved l ∙ ap (λ u. ground_row s (row_term u) l) c.get.ensures) c.new.ensures

pub apply_row-returns-clause-put_in : goal.apply_row-returns-clause-put_in
apply_row-returns-clause-put_in t c =
    if_ok c.new.result (λ x q. subst (λ u. IsPutIn (entry c.args.self.now) (rec (row_term u).fields (row_term u).rest)) (sym q) c.in_ok-applied.ensures.put_in) c.new.ensures

pub apply_type-returns-in_ok-apply_element-in-Array-clause-same : goal.apply_type-returns-in_ok-apply_element-in-Array-clause-same
apply_type-returns-in_ok-apply_element-in-Array-clause-same t c =
    λ s solved. array_same s c.args.ty.now c.in_ok-head.head.now (c.in_ok-head.ensures.same s solved) c.in_ok-apply_element-in-Array.field-0 c.in-Array.element c.in-Array.is (c.in_ok-apply_element-in-Array.ensures.same s solved)

pub apply_type-returns-in_ok-apply_element-in-Array-clause-put_in : goal.apply_type-returns-in_ok-apply_element-in-Array-clause-put_in
apply_type-returns-in_ok-apply_element-in-Array-clause-put_in t c =
    array_put (entry c.args.self.now) c.in_ok-apply_element-in-Array.field-0 c.in_ok-apply_element-in-Array.ensures.put_in

pub apply_type-returns-in_ok-apply_function-in-Fun-clause-same : goal.apply_type-returns-in_ok-apply_function-in-Fun-clause-same
apply_type-returns-in_ok-apply_function-in-Fun-clause-same t c =
    λ s solved. fun_same s c.args.ty.now c.in_ok-head.head.now (c.in_ok-head.ensures.same s solved) c.in_ok-apply_function-in-Fun.field-0 c.in-Fun.function c.in-Fun.is (c.in_ok-apply_function-in-Fun.ensures.same s solved)

pub apply_type-returns-in_ok-apply_function-in-Fun-clause-put_in : goal.apply_type-returns-in_ok-apply_function-in-Fun-clause-put_in
apply_type-returns-in_ok-apply_function-in-Fun-clause-put_in t c =
    fun_put (entry c.args.self.now) c.in_ok-apply_function-in-Fun.field-0 c.in_ok-apply_function-in-Fun.ensures.put_in

pub apply_type-returns-in_ok-apply_row-in-Rec-clause-same : goal.apply_type-returns-in_ok-apply_row-in-Rec-clause-same
apply_type-returns-in_ok-apply_row-in-Rec-clause-same t c =
    λ s solved. rec_same s c.args.ty.now c.in_ok-head.head.now (c.in_ok-head.ensures.same s solved) c.in_ok-apply_row-in-Rec.field-0 c.in-Rec.row c.in-Rec.is (c.in_ok-apply_row-in-Rec.ensures.same s solved)

pub apply_type-returns-in_ok-apply_row-in-Rec-clause-put_in : goal.apply_type-returns-in_ok-apply_row-in-Rec-clause-put_in
apply_type-returns-in_ok-apply_row-in-Rec-clause-put_in t c =
    rec_put (entry c.args.self.now) c.in_ok-apply_row-in-Rec.field-0 c.in_ok-apply_row-in-Rec.ensures.put_in

pub apply_type-returns-in_ok-apply_row-in-Stream-clause-same : goal.apply_type-returns-in_ok-apply_row-in-Stream-clause-same
apply_type-returns-in_ok-apply_row-in-Stream-clause-same t c =
    λ s solved. stream_same s c.args.ty.now c.in_ok-head.head.now (c.in_ok-head.ensures.same s solved) c.in_ok-apply_row-in-Stream.field-0 c.in-Stream.row c.in-Stream.is (c.in_ok-apply_row-in-Stream.ensures.same s solved)

pub apply_type-returns-in_ok-apply_row-in-Stream-clause-put_in : goal.apply_type-returns-in_ok-apply_row-in-Stream-clause-put_in
apply_type-returns-in_ok-apply_row-in-Stream-clause-put_in t c =
    stream_put (entry c.args.self.now) c.in_ok-apply_row-in-Stream.field-0 c.in_ok-apply_row-in-Stream.ensures.put_in

pub apply_type-returns-in_default-clause-same : goal.apply_type-returns-in_default-clause-same
apply_type-returns-in_default-clause-same t c =
    if_ok c.copy.result (λ x e s solved. copy_same s c.args.ty.now c.in_ok-head.head.now (c.in_ok-head.ensures.same s solved) x e) c.copy.ensures

pub apply_type-returns-in_default-clause-put_in : goal.apply_type-returns-in_default-clause-put_in
apply_type-returns-in_default-clause-put_in t c =
    if_ok c.copy.result (λ x q. term_put (entry c.args.self.now) x c.in_ok-head.head.now q (head_put (entry c.args.self.now) c.in_ok-head.head.now c.in_ok-head.ensures.free c.in_default.not-Array c.in_default.not-Fun c.in_default.not-Rec c.in_default.not-Stream)) c.copy.ensures

pub apply_variable-returns-in-Absent-clause-same : goal.apply_variable-returns-in-Absent-clause-same
apply_variable-returns-in-Absent-clause-same t c =
    λ s solved. ap (ground_field s) field_absent ∙ sym (ap (λ f. value s (part_seen f)) c.in-Absent.is) ∙ c.in_ok-found.ensures.same s solved

pub apply_variable-returns-in-Absent-clause-put_in : goal.apply_variable-returns-in-Absent-clause-put_in
apply_variable-returns-in-Absent-clause-put_in t c =
    absent_put (entry c.args.self.now)

pub apply_variable-returns-in_ok-apply_type-in-Is-clause-same : goal.apply_variable-returns-in_ok-apply_type-in-Is-clause-same
apply_variable-returns-in_ok-apply_type-in-Is-clause-same t c =
    λ s solved. ap (ground_field s) (field_is c.in_ok-apply_type-in-Is.field-0) ∙ ap g_is (c.in_ok-apply_type-in-Is.ensures.same s solved) ∙ sym (ap (λ f. value s (part_seen f)) c.in-Is.is) ∙ c.in_ok-found.ensures.same s solved

pub apply_variable-returns-in_ok-apply_type-in-Is-clause-put_in : goal.apply_variable-returns-in_ok-apply_type-in-Is-clause-put_in
apply_variable-returns-in_ok-apply_type-in-Is-clause-put_in t c =
    is_put (entry c.args.self.now) c.in_ok-apply_type-in-Is.field-0 c.in_ok-apply_type-in-Is.ensures.put_in

pub apply_variable-returns-in-Var-clause-same : goal.apply_variable-returns-in-Var-clause-same
apply_variable-returns-in-Var-clause-same t c =
    λ s solved. ap (ground_field s) (field_var c.in-Var.last) ∙ sym (ap (λ f. value s (part_seen f)) c.in-Var.is) ∙ c.in_ok-found.ensures.same s solved

pub apply_variable-returns-in-Var-clause-put_in : goal.apply_variable-returns-in-Var-clause-put_in
apply_variable-returns-in-Var-clause-put_in t c =
    variable_put (entry c.args.self.now) c.in-Var.last (free_last (entry c.args.self.now) c.in_ok-found.found c.in-Var.last c.in-Var.is c.in_ok-found.ensures.free)

pub apply_variable-returns-in-Slot-clause-same : goal.apply_variable-returns-in-Slot-clause-same
apply_variable-returns-in-Slot-clause-same t c =
    λ s solved. ap (ground_field s) (field_var c.args.number)

pub apply_variable-returns-in-Slot-clause-put_in : goal.apply_variable-returns-in-Slot-clause-put_in
apply_variable-returns-in-Slot-clause-put_in t c =
    variable_put (entry c.args.self.now) c.args.number (slot_last (entry c.args.self.now) c.in_ok-found.found c.args.number _ _ (ap part_seen c.in-Slot.is) c.in_ok-found.ensures.free c.in_ok-found.ensures.same)
