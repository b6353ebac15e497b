use Rattle.std.proofs.Common.{◌≡◌, sym, ap, subst, ◌∙◌, ◌+◌, ◌≤◌, ◌^◌, map, arith}
use Rattle.std.specs.Prelude.{option_map}
use Rattle.fx_types.specs.Numbers.{numbers, numbers_labels, numbers_pipe, numbers_field, numbers_fields, numbers_tail}
use Rattle.fx_types.specs.Raised.{raised, raised_pipe, raised_field, raised_tail}
use Rattle.fx_types.specs.Shape.{term, field_term, rest_term, fun_term, row_term, entry_term, label_term, labels_of, fields_of, pipe_of}
use Rattle.fx_types.specs.Term.{type_variable, array, fun, rec, stream, by_pipe, is, field_variable, default, row_variable}
use Rattle.fx_types.proofs.RaiseLists.{label_step, label_numbers, field_step, field_numbers, all_labels, all_fields, fun_raised, row_raised}
use Rattle.fx_types.proofs.ShapeLaws.{term_bool, term_int, term_text, term_time, term_span, term_pattern, term_done, term_variable, term_array, term_fun, term_rec, term_stream, field_absent, field_is, field_var, tail_default, tail_var}
use Rattle.fx_types.proofs.raise.+raise.Goals as goal

-- types

pub raise_ty-returns-in-Bool : goal.raise_ty-returns-in-Bool
raise_ty-returns-in-Bool t c = λ room. term_bool ∙ sym (ap (λ u. raised c.args.by (term u)) c.in-Bool.is ∙ ap (raised c.args.by) term_bool)

pub raise_ty-returns-in-Int : goal.raise_ty-returns-in-Int
raise_ty-returns-in-Int t c = λ room. term_int ∙ sym (ap (λ u. raised c.args.by (term u)) c.in-Int.is ∙ ap (raised c.args.by) term_int)

pub raise_ty-returns-in-Text : goal.raise_ty-returns-in-Text
raise_ty-returns-in-Text t c = λ room. term_text ∙ sym (ap (λ u. raised c.args.by (term u)) c.in-Text.is ∙ ap (raised c.args.by) term_text)

pub raise_ty-returns-in-Time : goal.raise_ty-returns-in-Time
raise_ty-returns-in-Time t c = λ room. term_time ∙ sym (ap (λ u. raised c.args.by (term u)) c.in-Time.is ∙ ap (raised c.args.by) term_time)

pub raise_ty-returns-in-Span : goal.raise_ty-returns-in-Span
raise_ty-returns-in-Span t c = λ room. term_span ∙ sym (ap (λ u. raised c.args.by (term u)) c.in-Span.is ∙ ap (raised c.args.by) term_span)

pub raise_ty-returns-in-Pattern : goal.raise_ty-returns-in-Pattern
raise_ty-returns-in-Pattern t c = λ room. term_pattern ∙ sym (ap (λ u. raised c.args.by (term u)) c.in-Pattern.is ∙ ap (raised c.args.by) term_pattern)

pub raise_ty-returns-in-Done : goal.raise_ty-returns-in-Done
raise_ty-returns-in-Done t c = λ room. term_done ∙ sym (ap (λ u. raised c.args.by (term u)) c.in-Done.is ∙ ap (raised c.args.by) term_done)

pub raise_ty-returns-in-Var : goal.raise_ty-returns-in-Var
raise_ty-returns-in-Var t c =
    λ room. (let same : numbers (term c.args.ty.now) ≡ c.in-Var.number + 1 = ap (λ u. numbers (term u)) c.in-Var.is ∙ ap numbers (term_variable c.in-Var.number) in
    term_variable c.raise_number.result ∙ ap type_variable (c.raise_number.ensures (omega arith))
    ∙ sym (ap (λ u. raised c.args.by (term u)) c.in-Var.is ∙ ap (raised c.args.by) (term_variable c.in-Var.number)))

pub raise_ty-returns-in_ok-raise_element-in-Array : goal.raise_ty-returns-in_ok-raise_element-in-Array
raise_ty-returns-in_ok-raise_element-in-Array t c =
    λ room. (let same : numbers (term c.args.ty.now) ≡ numbers (term c.in-Array.element) = ap (λ u. numbers (term u)) c.in-Array.is ∙ ap numbers (term_array c.in-Array.element) in
    term_array c.in_ok-raise_element-in-Array.field-0 ∙ ap array (c.in_ok-raise_element-in-Array.ensures (omega arith))
    ∙ sym (ap (λ u. raised c.args.by (term u)) c.in-Array.is ∙ ap (raised c.args.by) (term_array c.in-Array.element)))

pub raise_ty-returns-in_ok-raise_boxed_fun-in-Fun : goal.raise_ty-returns-in_ok-raise_boxed_fun-in-Fun
raise_ty-returns-in_ok-raise_boxed_fun-in-Fun t c =
    λ room. (let same : numbers (term c.args.ty.now) ≡ numbers (fun (fun_term c.in-Fun.function).required (fun_term c.in-Fun.function).pipe (fun_term c.in-Fun.function).result) = ap (λ u. numbers (term u)) c.in-Fun.is ∙ ap numbers (term_fun c.in-Fun.function) in
    term_fun c.in_ok-raise_boxed_fun-in-Fun.field-0 ∙ ap (λ f. fun f.required f.pipe f.result) (c.in_ok-raise_boxed_fun-in-Fun.ensures (omega arith))
    ∙ sym (ap (λ u. raised c.args.by (term u)) c.in-Fun.is ∙ ap (raised c.args.by) (term_fun c.in-Fun.function)))

pub raise_ty-returns-in_ok-raise_boxed_row-in-Rec : goal.raise_ty-returns-in_ok-raise_boxed_row-in-Rec
raise_ty-returns-in_ok-raise_boxed_row-in-Rec t c =
    λ room. (let same : numbers (term c.args.ty.now) ≡ numbers (rec (row_term c.in-Rec.row).fields (row_term c.in-Rec.row).rest) = ap (λ u. numbers (term u)) c.in-Rec.is ∙ ap numbers (term_rec c.in-Rec.row) in
    term_rec c.in_ok-raise_boxed_row-in-Rec.field-0 ∙ ap (λ r. rec r.fields r.rest) (c.in_ok-raise_boxed_row-in-Rec.ensures (omega arith))
    ∙ sym (ap (λ u. raised c.args.by (term u)) c.in-Rec.is ∙ ap (raised c.args.by) (term_rec c.in-Rec.row)))

pub raise_ty-returns-in_ok-raise_boxed_row-in-Stream : goal.raise_ty-returns-in_ok-raise_boxed_row-in-Stream
raise_ty-returns-in_ok-raise_boxed_row-in-Stream t c =
    λ room. (let same : numbers (term c.args.ty.now) ≡ numbers (stream (row_term c.in-Stream.row).fields (row_term c.in-Stream.row).rest) = ap (λ u. numbers (term u)) c.in-Stream.is ∙ ap numbers (term_stream c.in-Stream.row) in
    term_stream c.in_ok-raise_boxed_row-in-Stream.field-0 ∙ ap (λ r. stream r.fields r.rest) (c.in_ok-raise_boxed_row-in-Stream.ensures (omega arith))
    ∙ sym (ap (λ u. raised c.args.by (term u)) c.in-Stream.is ∙ ap (raised c.args.by) (term_stream c.in-Stream.row)))

-- functions

pub raise_fun-returns : goal.raise_fun-returns
raise_fun-returns t c =
    fun_raised c.args.by c.args.function.now c.in_ok-raise_labels.field-0 c.in_ok-raise_pipe.field-0 c.in_ok-raise_ty.field-0 c.in_ok-raise_labels.ensures c.in_ok-raise_pipe.ensures c.in_ok-raise_ty.ensures

pub raise_labels-loop-entry-preserved : goal.raise_labels-loop-entry-preserved
raise_labels-loop-entry-preserved t c =
    λ room. (let le : numbers (term c.entry-item.result.ty) ≤ numbers_labels (labels_of (map label_term c.as_slice-entry-items.result.now)) =
    label_numbers c.as_slice-entry-items.result.now c.loop-entry.entry-index c.entry-item.result c.loop-entry-test.true c.entry-item.is in
    label_step c.args.by c.loop-entry.raised c.push.new.self c.as_slice-entry-items.result.now c.loop-entry.entry-index (record { label = c.in_ok-label.label; ty = c.in_ok-ty.ty }) c.entry-item.result
    c.in_ok-push.ensures.ok c.in_ok-label.ensures (c.in_ok-ty.ensures (omega arith)) c.loop-entry-test.true c.entry-item.is (c.loop-entry.invariant room))

pub raise_labels-returns : goal.raise_labels-returns
raise_labels-returns t c =
    λ room. all_labels c.args.by c.loop-entry.raised c.as_slice-entry-items.result.now c.args.labels.now c.loop-entry.entry-index c.as_slice-entry-items.ensures c.loop-entry-test.false
    (c.loop-entry.invariant (subst (λ es. numbers_labels (labels_of (map label_term es)) + c.args.by ≤ 2 ^ 32) (sym c.as_slice-entry-items.ensures) room))

pub raise_pipe-returns-in_ok-raise_ty-in-Some : goal.raise_pipe-returns-in_ok-raise_ty-in-Some
raise_pipe-returns-in_ok-raise_ty-in-Some t c =
    λ room. ap by_pipe (c.in_ok-raise_ty-in-Some.ensures (subst (λ p. numbers_pipe (pipe_of (option_map term p)) + c.args.by ≤ 2 ^ 32) c.in-Some.is room))
    ∙ ap (λ p. raised_pipe c.args.by (pipe_of (option_map term p))) (sym c.in-Some.is)

pub raise_pipe-returns-in-None : goal.raise_pipe-returns-in-None
raise_pipe-returns-in-None t c = λ room. ap (λ p. raised_pipe c.args.by (pipe_of (option_map term p))) (sym c.in-None.is)

-- rows

pub raise_row-returns : goal.raise_row-returns
raise_row-returns t c = row_raised c.args.by c.args.row.now c.in_ok-raise_fields.field-0 c.in_ok-raise_rest.field-0 c.in_ok-raise_fields.ensures c.in_ok-raise_rest.ensures

pub raise_fields-loop-entry-preserved : goal.raise_fields-loop-entry-preserved
raise_fields-loop-entry-preserved t c =
    λ room. (let le : numbers_field (field_term c.entry-item.result.field) ≤ numbers_fields (fields_of (map entry_term c.as_slice-entry-items.result.now)) =
    field_numbers c.as_slice-entry-items.result.now c.loop-entry.entry-index c.entry-item.result c.loop-entry-test.true c.entry-item.is in
    field_step c.args.by c.loop-entry.raised c.push.new.self c.as_slice-entry-items.result.now c.loop-entry.entry-index (record { label = c.in_ok-label.label; field = c.in_ok-field.field }) c.entry-item.result
    c.in_ok-push.ensures.ok c.in_ok-label.ensures (c.in_ok-field.ensures (omega arith)) c.loop-entry-test.true c.entry-item.is (c.loop-entry.invariant room))

pub raise_fields-returns : goal.raise_fields-returns
raise_fields-returns t c =
    λ room. all_fields c.args.by c.loop-entry.raised c.as_slice-entry-items.result.now c.args.fields.now c.loop-entry.entry-index c.as_slice-entry-items.ensures c.loop-entry-test.false
    (c.loop-entry.invariant (subst (λ es. numbers_fields (fields_of (map entry_term es)) + c.args.by ≤ 2 ^ 32) (sym c.as_slice-entry-items.ensures) room))

pub raise_field-returns-in-Absent : goal.raise_field-returns-in-Absent
raise_field-returns-in-Absent t c = λ room. field_absent ∙ sym (ap (λ f. raised_field c.args.by (field_term f)) c.in-Absent.is ∙ ap (raised_field c.args.by) field_absent)

pub raise_field-returns-in_ok-raise_ty-in-Is : goal.raise_field-returns-in_ok-raise_ty-in-Is
raise_field-returns-in_ok-raise_ty-in-Is t c =
    λ room. (let same : numbers_field (field_term c.args.field.now) ≡ numbers (term c.in-Is.ty) = ap (λ u. numbers_field (field_term u)) c.in-Is.is ∙ ap numbers_field (field_is c.in-Is.ty) in
    field_is c.in_ok-raise_ty-in-Is.field-0 ∙ ap is (c.in_ok-raise_ty-in-Is.ensures (omega arith))
    ∙ sym (ap (λ f. raised_field c.args.by (field_term f)) c.in-Is.is ∙ ap (raised_field c.args.by) (field_is c.in-Is.ty)))

pub raise_field-returns-in-Var : goal.raise_field-returns-in-Var
raise_field-returns-in-Var t c =
    λ room. (let same : numbers_field (field_term c.args.field.now) ≡ c.in-Var.number + 1 = ap (λ u. numbers_field (field_term u)) c.in-Var.is ∙ ap numbers_field (field_var c.in-Var.number) in
    field_var c.raise_number.result ∙ ap field_variable (c.raise_number.ensures (omega arith))
    ∙ sym (ap (λ f. raised_field c.args.by (field_term f)) c.in-Var.is ∙ ap (raised_field c.args.by) (field_var c.in-Var.number)))

pub raise_rest-returns-in_ok-raise_field-in-Default : goal.raise_rest-returns-in_ok-raise_field-in-Default
raise_rest-returns-in_ok-raise_field-in-Default t c =
    λ room. (let same : numbers_tail (rest_term c.args.rest.now) ≡ numbers_field (field_term c.in-Default.field) =
    ap (λ r. numbers_tail (rest_term r)) c.in-Default.is ∙ ap numbers_tail (tail_default c.in-Default.field) in
    tail_default c.in_ok-raise_field-in-Default.field-0 ∙ ap default (c.in_ok-raise_field-in-Default.ensures (omega arith))
    ∙ sym (ap (λ r. raised_tail c.args.by (rest_term r)) c.in-Default.is ∙ ap (raised_tail c.args.by) (tail_default c.in-Default.field)))

pub raise_rest-returns-in-Var : goal.raise_rest-returns-in-Var
raise_rest-returns-in-Var t c =
    λ room. (let same : numbers_tail (rest_term c.args.rest.now) ≡ c.in-Var.number + 1 = ap (λ r. numbers_tail (rest_term r)) c.in-Var.is ∙ ap numbers_tail (tail_var c.in-Var.number) in
    tail_var c.raise_number.result ∙ ap row_variable (c.raise_number.ensures (omega arith))
    ∙ sym (ap (λ r. raised_tail c.args.by (rest_term r)) c.in-Var.is ∙ ap (raised_tail c.args.by) (tail_var c.in-Var.number)))
