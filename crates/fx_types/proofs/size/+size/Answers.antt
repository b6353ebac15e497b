use Rattle.std.proofs.Common.{refl, ◌∙◌, ap, map, []}
use Rattle.fx_types.specs.Nodes.{nodes_labels, nodes_fields, capped}
use Rattle.fx_types.specs.Shape.{entry_term, label_term, labels_of, fields_of}
use Rattle.fx_types.proofs.ShapeLaws.{term_bool, term_int, term_text, term_time, term_span, term_pattern, term_done, term_variable, term_array, term_fun, term_rec, term_stream, field_absent, field_is, field_var, tail_default, tail_var, row_is, function_is}
use Rattle.fx_types.proofs.SizeSteps.{capped_within, sum_of_two, sum_of_three, one_more, labels_step, labels_end, fields_step, fields_end}
use Rattle.fx_types.proofs.size.+size.Goals as goal

pub ty_size-returns-in-Bool : goal.ty_size-returns-in-Bool
ty_size-returns-in-Bool t c = rw (c.in-Bool.is, term_bool) refl

pub ty_size-returns-in-Int : goal.ty_size-returns-in-Int
ty_size-returns-in-Int t c = rw (c.in-Int.is, term_int) refl

pub ty_size-returns-in-Text : goal.ty_size-returns-in-Text
ty_size-returns-in-Text t c = rw (c.in-Text.is, term_text) refl

pub ty_size-returns-in-Time : goal.ty_size-returns-in-Time
ty_size-returns-in-Time t c = rw (c.in-Time.is, term_time) refl

pub ty_size-returns-in-Span : goal.ty_size-returns-in-Span
ty_size-returns-in-Span t c = rw (c.in-Span.is, term_span) refl

pub ty_size-returns-in-Pattern : goal.ty_size-returns-in-Pattern
ty_size-returns-in-Pattern t c = rw (c.in-Pattern.is, term_pattern) refl

pub ty_size-returns-in-Done : goal.ty_size-returns-in-Done
ty_size-returns-in-Done t c = rw (c.in-Done.is, term_done) refl

pub ty_size-returns-in-Var : goal.ty_size-returns-in-Var
ty_size-returns-in-Var t c = rw (c.in-Var.is, term_variable) refl

pub ty_size-returns-in-Array : goal.ty_size-returns-in-Array
ty_size-returns-in-Array t c = rw (c.in-Array.is, term_array) (one_more _ _ _ (rw c.get.ensures at c.ty_size.ensures) c.saturating_add.ensures)

pub ty_size-returns-in-Fun : goal.ty_size-returns-in-Fun
ty_size-returns-in-Fun t c = rw (c.in-Fun.is, term_fun) (rw c.get-in-Fun.ensures at c.fun_size.ensures)

pub ty_size-returns-in-Rec : goal.ty_size-returns-in-Rec
ty_size-returns-in-Rec t c = rw (c.in-Rec.is, term_rec) (rw c.get-in-Rec.ensures at c.row_size.ensures)

pub ty_size-returns-in-Stream : goal.ty_size-returns-in-Stream
ty_size-returns-in-Stream t c = rw (c.in-Stream.is, term_stream) (rw c.get-in-Stream.ensures at c.row_size-in-Stream.ensures)

pub fun_size-returns : goal.fun_size-returns
fun_size-returns t c =
    rw (function_is c.args.function.now)
    (sum_of_three _ _ _ _ _ _ _ _ _ c.labels_size.ensures c.pipe_size.ensures c.ty_size.ensures c.saturating_add.ensures c.saturating_add-2.ensures c.saturating_add-3.ensures)

pub labels_size-loop-i-preserved : goal.labels_size-loop-i-preserved
labels_size-loop-i-preserved t c = (
  capped_within _ _ c.saturating_add-size.ensures,
  labels_step c.as_slice-entries.result.now c.loop-i.i c.index-entries-i.result _ _ _ _ c.loop-i-test.true c.index-entries-i.is c.label_size.ensures
      c.saturating_add-size.ensures c.loop-i.invariant.1,
)

pub labels_size-returns : goal.labels_size-returns
labels_size-returns t c =
    labels_end c.as_slice-entries.result.now c.loop-i.i _ _ c.loop-i-test.false c.loop-i.invariant.0 c.loop-i.invariant.1
    ∙ ap (λ es. capped (nodes_labels [] (labels_of (map label_term es)))) c.as_slice-entries.ensures

pub row_size-returns : goal.row_size-returns
row_size-returns t c = rw (row_is c.args.row.now) (sum_of_two _ _ _ _ _ _ c.fields_size.ensures c.rest_size.ensures c.saturating_add.ensures c.saturating_add-2.ensures)

pub fields_size-loop-i-preserved : goal.fields_size-loop-i-preserved
fields_size-loop-i-preserved t c = (
  capped_within _ _ c.saturating_add-size.ensures,
  fields_step c.as_slice-entries.result.now c.loop-i.i c.index-entries-i.result _ _ _ _ c.loop-i-test.true c.index-entries-i.is c.entry_size.ensures
      c.saturating_add-size.ensures c.loop-i.invariant.1,
)

pub fields_size-returns : goal.fields_size-returns
fields_size-returns t c =
    fields_end c.as_slice-entries.result.now c.loop-i.i _ _ c.loop-i-test.false c.loop-i.invariant.0 c.loop-i.invariant.1
    ∙ ap (λ es. capped (nodes_fields [] (fields_of (map entry_term es)))) c.as_slice-entries.ensures

pub field_size-returns-in-Absent : goal.field_size-returns-in-Absent
field_size-returns-in-Absent t c = rw (c.in-Absent.is, field_absent) refl

pub field_size-returns-in-Is : goal.field_size-returns-in-Is
field_size-returns-in-Is t c = rw (c.in-Is.is, field_is) c.part_size.ensures

pub field_size-returns-in-Var : goal.field_size-returns-in-Var
field_size-returns-in-Var t c = rw (c.in-Var.is, field_var) refl

pub rest_size-returns-in-Default : goal.rest_size-returns-in-Default
rest_size-returns-in-Default t c = rw (c.in-Default.is, tail_default) c.default_size.ensures

pub rest_size-returns-in-Var : goal.rest_size-returns-in-Var
rest_size-returns-in-Var t c = rw (c.in-Var.is, tail_var) refl
