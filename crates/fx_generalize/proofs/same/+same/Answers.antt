use Rattle.std.proofs.Common.{sym, ap, ◌∙◌}
use Rattle.fx_types.specs.Shape.{term, field_term, rest_term, fun_term, row_term}
use Rattle.fx_types.specs.Term.{array, fun, rec, stream, is, default}
use Rattle.fx_types.proofs.RowSums.{same_is}
use Rattle.fx_types.proofs.ShapeLaws.{term_array, term_fun, term_rec, term_stream, field_is, tail_default}
use Rattle.fx_generalize.proofs.SameLaws.{labels_same, entries_same, functions_same, rows_same}
use Rattle.fx_generalize.proofs.same.+same.Goals as goal

pub same_entry-returns-then-eq : goal.same_entry-returns-then-eq
same_entry-returns-then-eq t c =
    λ e. entries_same c.args.a.now c.args.b.now (same_is c.args.a.now.label c.args.b.now.label (sym c.eq.ensures ∙ c.if-eq.true)) (c.same_field.ensures e)

pub same_field-returns-in-Is-Is : goal.same_field-returns-in-Is-Is
same_field-returns-in-Is-Is t c =
    λ e. ap field_term c.in-Is-Is.is-0 ∙ field_is c.in-Is-Is.ty ∙ ap is (c.same_type.ensures e) ∙ sym (ap field_term c.in-Is-Is.is-1 ∙ field_is c.in-Is-Is.other)

pub same_function-returns : goal.same_function-returns
same_function-returns t c =
    λ e. functions_same c.args.a.now c.args.b.now (c.same_labels.ensures c.if-not-same_labels.false) (c.same_pipe.ensures c.if-not-same_pipe.false) (c.same_type.ensures e)

pub same_label-returns-then-eq : goal.same_label-returns-then-eq
same_label-returns-then-eq t c =
    λ e. labels_same c.args.a.now c.args.b.now (same_is c.args.a.now.label c.args.b.now.label (sym c.eq.ensures ∙ c.if-eq.true)) (c.same_type.ensures e)

pub same_rest-returns-in-Default-Default : goal.same_rest-returns-in-Default-Default
same_rest-returns-in-Default-Default t c =
    λ e. ap rest_term c.in-Default-Default.is-0 ∙ tail_default c.in-Default-Default.field ∙ ap default (c.same_field.ensures e)
    ∙ sym (ap rest_term c.in-Default-Default.is-1 ∙ tail_default c.in-Default-Default.other)

pub same_row-returns : goal.same_row-returns
same_row-returns t c = λ e. rows_same c.args.a.now c.args.b.now (c.same_fields.ensures c.if-not-same_fields.false) (c.same_rest.ensures e)

pub same_type-returns-in-Array-Array : goal.same_type-returns-in-Array-Array
same_type-returns-in-Array-Array t c =
    λ e. ap term c.in-Array-Array.is-0 ∙ term_array c.in-Array-Array.element
    ∙ ap array (sym (ap term c.get.ensures) ∙ c.same_type.ensures e ∙ ap term c.get-in-Array-Array.ensures)
    ∙ sym (ap term c.in-Array-Array.is-1 ∙ term_array c.in-Array-Array.other)

pub same_type-returns-in-Fun-Fun : goal.same_type-returns-in-Fun-Fun
same_type-returns-in-Fun-Fun t c =
    λ e. ap term c.in-Fun-Fun.is-0 ∙ term_fun c.in-Fun-Fun.function
    ∙ ap (λ f. fun f.required f.pipe f.result) (sym (ap fun_term c.get-in-Fun-Fun.ensures) ∙ c.same_function.ensures e ∙ ap fun_term c.get-in-Fun-Fun-2.ensures)
    ∙ sym (ap term c.in-Fun-Fun.is-1 ∙ term_fun c.in-Fun-Fun.other)

pub same_type-returns-in-Rec-Rec : goal.same_type-returns-in-Rec-Rec
same_type-returns-in-Rec-Rec t c =
    λ e. ap term c.in-Rec-Rec.is-0 ∙ term_rec c.in-Rec-Rec.row
    ∙ ap (λ r. rec r.fields r.rest) (sym (ap row_term c.get-in-Rec-Rec.ensures) ∙ c.same_row.ensures e ∙ ap row_term c.get-in-Rec-Rec-2.ensures)
    ∙ sym (ap term c.in-Rec-Rec.is-1 ∙ term_rec c.in-Rec-Rec.other)

pub same_type-returns-in-Stream-Stream : goal.same_type-returns-in-Stream-Stream
same_type-returns-in-Stream-Stream t c =
    λ e. ap term c.in-Stream-Stream.is-0 ∙ term_stream c.in-Stream-Stream.row
    ∙ ap (λ r. stream r.fields r.rest) (sym (ap row_term c.get-in-Stream-Stream.ensures) ∙ c.same_row-in-Stream-Stream.ensures e ∙ ap row_term c.get-in-Stream-Stream-2.ensures)
    ∙ sym (ap term c.in-Stream-Stream.is-1 ∙ term_stream c.in-Stream-Stream.other)
