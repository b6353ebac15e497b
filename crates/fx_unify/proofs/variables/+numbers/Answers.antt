use Rattle.std.proofs.Common.{◌≡◌, refl, ◌∙◌, ap, map, max}
use Rattle.std.specs.Prelude.{option_map}
use Rattle.fx_types.specs.declared.term.FieldTy.TheViews.{out-FunTy}
use Rattle.fx_types.specs.Shape.{term, entry_term, label_term, labels_of, fields_of, pipe_of}
use Rattle.fx_types.proofs.ShapeLaws.{term_bool, term_int, term_text, term_time, term_span, term_pattern, term_done, term_variable, term_array, term_fun, term_rec, term_stream, field_absent, field_is, field_var, tail_default, tail_var, row_is, function_is}
use Rattle.fx_types.specs.Numbers.{numbers_labels, numbers_pipe, numbers_fields}
use Rattle.fx_unify.proofs.NumberLaws.{labels_step, labels_end, fields_step, fields_end, start}
use Rattle.fx_unify.proofs.variables.+numbers.Goals as goal

pub numbers-returns-in-Bool : goal.numbers-returns-in-Bool
numbers-returns-in-Bool t c = rw (c.in-Bool.is, term_bool) refl

pub numbers-returns-in-Int : goal.numbers-returns-in-Int
numbers-returns-in-Int t c = rw (c.in-Int.is, term_int) refl

pub numbers-returns-in-Text : goal.numbers-returns-in-Text
numbers-returns-in-Text t c = rw (c.in-Text.is, term_text) refl

pub numbers-returns-in-Time : goal.numbers-returns-in-Time
numbers-returns-in-Time t c = rw (c.in-Time.is, term_time) refl

pub numbers-returns-in-Span : goal.numbers-returns-in-Span
numbers-returns-in-Span t c = rw (c.in-Span.is, term_span) refl

pub numbers-returns-in-Pattern : goal.numbers-returns-in-Pattern
numbers-returns-in-Pattern t c = rw (c.in-Pattern.is, term_pattern) refl

pub numbers-returns-in-Done : goal.numbers-returns-in-Done
numbers-returns-in-Done t c = rw (c.in-Done.is, term_done) refl

pub numbers-returns-in-Var : goal.numbers-returns-in-Var
numbers-returns-in-Var t c = rw (c.in-Var.is, term_variable) refl

pub numbers-returns-in-Array : goal.numbers-returns-in-Array
numbers-returns-in-Array t c = rw (c.in-Array.is, term_array) (rw c.get.ensures at c.numbers.ensures)

pub numbers-returns-in-Fun : goal.numbers-returns-in-Fun
numbers-returns-in-Fun t c = rw (c.in-Fun.is, term_fun) (rw c.get-in-Fun.ensures at c.function_numbers.ensures)

pub numbers-returns-in-Rec : goal.numbers-returns-in-Rec
numbers-returns-in-Rec t c = rw (c.in-Rec.is, term_rec) (rw c.get-in-Rec.ensures at c.row_numbers.ensures)

pub numbers-returns-in-Stream : goal.numbers-returns-in-Stream
numbers-returns-in-Stream t c = rw (c.in-Stream.is, term_stream) (rw c.get-in-Stream.ensures at c.row_numbers-in-Stream.ensures)

pub function_numbers-returns : goal.function_numbers-returns
function_numbers-returns t c =
    let first : c.max.result ≡ max (numbers_labels (labels_of (map label_term (out-FunTy c.args.function.now).required))) (numbers_pipe (pipe_of (option_map term (out-FunTy c.args.function.now).pipe))) =
    c.max.ensures ∙ (λ j. max (c.label_numbers.ensures j) (c.pipe_numbers.ensures j)) in
    rw (function_is c.args.function.now) (c.max-2.ensures ∙ (λ j. max (first j) (c.numbers.ensures j)))

pub row_numbers-returns : goal.row_numbers-returns
row_numbers-returns t c =
    rw (row_is c.args.row.now) (c.max.ensures ∙ (λ j. max (c.entry_numbers.ensures j) (c.rest_numbers.ensures j)))

pub label_numbers-loop-entry-init : goal.label_numbers-loop-entry-init
label_numbers-loop-entry-init t c =
    start _

pub label_numbers-loop-entry-preserved : goal.label_numbers-loop-entry-preserved
label_numbers-loop-entry-preserved t c =
    labels_step c.as_slice-entry-items.result.now c.loop-entry.entry-index c.entry-item.result _ _ _ _ c.loop-entry-test.true c.entry-item.is c.numbers.ensures c.max-greatest.ensures c.loop-entry.invariant

pub label_numbers-returns : goal.label_numbers-returns
label_numbers-returns t c =
    labels_end c.as_slice-entry-items.result.now c.loop-entry.entry-index _ _ c.loop-entry-test.false c.loop-entry.invariant ∙ ap (λ es. numbers_labels (labels_of (map label_term es))) c.as_slice-entry-items.ensures

pub entry_numbers-loop-entry-init : goal.entry_numbers-loop-entry-init
entry_numbers-loop-entry-init t c =
    start _

pub entry_numbers-loop-entry-preserved : goal.entry_numbers-loop-entry-preserved
entry_numbers-loop-entry-preserved t c =
    fields_step c.as_slice-entry-items.result.now c.loop-entry.entry-index c.entry-item.result _ _ _ _ c.loop-entry-test.true c.entry-item.is c.field_numbers.ensures c.max-greatest.ensures c.loop-entry.invariant

pub entry_numbers-returns : goal.entry_numbers-returns
entry_numbers-returns t c =
    fields_end c.as_slice-entry-items.result.now c.loop-entry.entry-index _ _ c.loop-entry-test.false c.loop-entry.invariant ∙ ap (λ es. numbers_fields (fields_of (map entry_term es))) c.as_slice-entry-items.ensures

pub field_numbers-returns-in-Absent : goal.field_numbers-returns-in-Absent
field_numbers-returns-in-Absent t c = rw (c.in-Absent.is, field_absent) refl

pub field_numbers-returns-in-Is : goal.field_numbers-returns-in-Is
field_numbers-returns-in-Is t c = rw (c.in-Is.is, field_is) c.numbers.ensures

pub field_numbers-returns-in-Var : goal.field_numbers-returns-in-Var
field_numbers-returns-in-Var t c = rw (c.in-Var.is, field_var) refl

pub rest_numbers-returns-in-Default : goal.rest_numbers-returns-in-Default
rest_numbers-returns-in-Default t c = rw (c.in-Default.is, tail_default) c.field_numbers.ensures

pub rest_numbers-returns-in-Var : goal.rest_numbers-returns-in-Var
rest_numbers-returns-in-Var t c = rw (c.in-Var.is, tail_var) refl
