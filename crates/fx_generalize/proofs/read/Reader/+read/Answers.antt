use Rattle.std.proofs.Common.{refl, sym, ap, subst, ◌∙◌}
use Rattle.fx_types.specs.Shape.{term, row_term}
use Rattle.fx_unify.specs.Store.{entry}
use Rattle.fx_unify.specs.Sums.{names}
use Rattle.fx_unify.specs.View.{part_seen}
use Rattle.fx_unify.proofs.RowLaws.{if_ok}
use Rattle.fx_generalize.specs.Named.{IsOpenRead, AreSlotsRead}
use Rattle.fx_generalize.proofs.ReadLaws.{label_read, field_read, parts_read, closed_read, row_over, slots_read, slot_hidden, slot_left, slot_read, left_at_root, default_read, variable_read, array_read, fun_read, rec_read, stream_read, type_variable_read, bare_read, view_absent, view_is, view_variable, view_slot, seen_read, open_read}
use Rattle.fx_generalize.proofs.read.Reader.+read.Goals as goal

pub read_field-returns : goal.read_field-returns
read_field-returns t c =
    if_ok c.read_view.result
    (λ x h. seen_read (entry c.args.self.now.bindings.now.store) c.args.self.now.names.now (part_seen c.in_ok-found.found) c.args.field.now (part_seen c.view_of.result) x c.in_ok-found.ensures.same c.view_of.ensures h)
    c.read_view.ensures

pub read_labels-loop-entry-preserved : goal.read_labels-loop-entry-preserved
read_labels-loop-entry-preserved t c =
    label_read (entry c.args.self.now.bindings.now.store) c.args.self.now.names.now c.loop-entry.read c.push.new.self c.as_slice-entry-items.result.now c.loop-entry.entry-index
    (record { label = c.in_ok-label.label; ty = c.in_ok-ty.ty }) c.entry-item.result c.in_ok-push.ensures.ok c.in_ok-label.ensures c.in_ok-ty.ensures c.loop-entry-test.true c.entry-item.is c.loop-entry.invariant

pub read_listed-loop-entry-preserved : goal.read_listed-loop-entry-preserved
read_listed-loop-entry-preserved t c =
    field_read (entry c.args.self.now.bindings.now.store) c.args.self.now.names.now c.loop-entry.read c.push.new.self c.as_slice-entry-items.result.now c.loop-entry.entry-index
    (record { label = c.in_ok-label.label; field = c.in_ok-field.field }) c.entry-item.result c.in_ok-push.ensures.ok c.in_ok-label.ensures c.in_ok-field.ensures c.loop-entry-test.true c.entry-item.is c.loop-entry.invariant

pub read_open-returns : goal.read_open-returns
read_open-returns t c =
    open_read c.args.self.now.bindings.now.store c.args.self.now.names.now c.args.row (names c.args.hidden.now) c.follow.new.labels.items c.add_named.new.labels.items c.in_ok-fields.fields c.in_ok-rest.rest c.in_ok-root.root
    c.in_ok-root.ensures.same c.in_ok-root.ensures.free c.in_ok-root.ensures.kept c.in_ok-add_named.ensures.grows.0 c.in_ok-add_named.ensures.among
    (subst (λ ls. AreSlotsRead (entry c.args.self.now.bindings.now.store) c.args.self.now.names.now c.args.row c.in_ok-root.root (names c.args.hidden.now) ls c.in_ok-fields.fields) c.as_slice.ensures.value c.in_ok-fields.ensures)
    c.in_ok-rest.ensures

pub read_parts-returns : goal.read_parts-returns
read_parts-returns t c =
    parts_read (entry c.args.self.now.bindings.now.store) c.args.self.now.names.now c.args.function.now c.in_ok-required.required c.in_ok-pipe.pipe c.in_ok-result.result c.in_ok-required.ensures c.in_ok-pipe.ensures
    c.in_ok-result.ensures

pub read_root-returns-in_ok-read_field-in-Default : goal.read_root-returns-in_ok-read_field-in-Default
read_root-returns-in_ok-read_field-in-Default t c =
    default_read (entry c.args.self.now.bindings.now.store) c.args.self.now.names.now c.args.root.now c.in-Default.field c.in_ok-read_field-in-Default.field-0 c.in-Default.is c.in_ok-read_field-in-Default.ensures

pub read_root-returns-in_ok-row_number-in-Var : goal.read_root-returns-in_ok-row_number-in-Var
read_root-returns-in_ok-row_number-in-Var t c =
    variable_read (entry c.args.self.now.bindings.now.store) c.args.self.now.names.now c.args.root.now c.in-Var.number c.in_ok-row_number-in-Var.field-0 c.in-Var.is c.in_ok-row_number-in-Var.ensures

pub read_row-returns-in_ok-read_field-in-Default : goal.read_row-returns-in_ok-read_field-in-Default
read_row-returns-in_ok-read_field-in-Default t c =
    closed_read (entry c.args.self.now.bindings.now.store) c.args.self.now.names.now c.args.row.now c.in-Default.field c.in_ok-read_field-in-Default.field-0 c.in_ok-fields.fields c.in-Default.is c.in_ok-fields.ensures
    c.in_ok-read_field-in-Default.ensures

pub read_row-returns-in_ok-over-in-Var : goal.read_row-returns-in_ok-over-in-Var
read_row-returns-in_ok-over-in-Var t c =
    row_over (entry c.args.self.now.bindings.now.store) c.args.self.now.names.now c.args.row.now c.in-Var.number c.in_ok-open-in-Var.open c.in_ok-over-in-Var.field-0 c.in_ok-fields.fields c.in-Var.is c.in_ok-fields.ensures
    (subst (λ es. IsOpenRead (entry c.args.self.now.bindings.now.store) c.args.self.now.names.now (names es) c.in-Var.number (row_term c.in_ok-open-in-Var.open)) c.as_slice.ensures c.in_ok-open-in-Var.ensures)
    c.in_ok-over-in-Var.ensures

pub read_slots-loop-at-preserved-then-has_label : goal.read_slots-loop-at-preserved-then-has_label
read_slots-loop-at-preserved-then-has_label t c =
    slot_hidden (entry c.args.self.now.bindings.now.store) c.args.self.now.names.now c.args.row c.args.root.now (names c.args.hidden.now) c.args.labels.now c.loop-at.at-index c.at-item.result c.loop-at-test.true c.at-item.is
    c.loop-at.read (sym c.has_label.ensures ∙ c.if-has_label.true) c.loop-at.invariant

pub read_slots-loop-at-preserved-then-is_at_root : goal.read_slots-loop-at-preserved-then-is_at_root
read_slots-loop-at-preserved-then-is_at_root t c =
    slot_left (entry c.args.self.now.bindings.now.store) c.args.self.now.names.now c.args.row c.args.root.now (names c.args.hidden.now) c.args.labels.now c.loop-at.at-index c.at-item.result c.loop-at-test.true c.at-item.is
    c.loop-at.read
    (left_at_root (entry c.args.self.now.bindings.now.store) c.args.self.now.names.now c.args.row c.args.root.now c.at-item.result (part_seen c.in_ok-found.found) c.in_ok-found.ensures.free c.in_ok-found.ensures.same
    (c.is_at_root.ensures c.if-is_at_root.true))
    c.loop-at.invariant

pub read_slots-loop-at-preserved : goal.read_slots-loop-at-preserved
read_slots-loop-at-preserved t c =
    slot_read (entry c.args.self.now.bindings.now.store) c.args.self.now.names.now c.args.row c.args.root.now (names c.args.hidden.now) c.args.labels.now c.loop-at.at-index c.at-item.result c.loop-at-test.true c.at-item.is
    c.loop-at.read c.push.new.self (record { label = c.in_ok-label.label; field = c.in_ok-field.field }) c.in_ok-push.ensures.ok c.in_ok-label.ensures
    (λ s q solved through. c.in_ok-field.ensures s q solved through ∙ c.in_ok-found.ensures.same s solved) c.loop-at.invariant

pub read_slots-returns : goal.read_slots-returns
read_slots-returns t c =
    slots_read (entry c.args.self.now.bindings.now.store) c.args.self.now.names.now c.args.row c.args.root.now (names c.args.hidden.now) c.args.labels.now c.loop-at.at-index c.loop-at.read c.loop-at-test.false c.loop-at.invariant

pub read_type-returns-in_ok-read_element-in-Array : goal.read_type-returns-in_ok-read_element-in-Array
read_type-returns-in_ok-read_element-in-Array t c =
    array_read (entry c.args.self.now.bindings.now.store) c.args.self.now.names.now c.args.ty.now c.in_ok-head.head.now c.in_ok-head.ensures.same c.in_ok-read_element-in-Array.field-0 c.in-Array.element c.in-Array.is
    c.in_ok-read_element-in-Array.ensures

pub read_type-returns-in_ok-read_function-in-Fun : goal.read_type-returns-in_ok-read_function-in-Fun
read_type-returns-in_ok-read_function-in-Fun t c =
    fun_read (entry c.args.self.now.bindings.now.store) c.args.self.now.names.now c.args.ty.now c.in_ok-head.head.now c.in_ok-head.ensures.same c.in_ok-read_function-in-Fun.field-0 c.in-Fun.function c.in-Fun.is
    c.in_ok-read_function-in-Fun.ensures

pub read_type-returns-in_ok-read_boxed_row-in-Rec : goal.read_type-returns-in_ok-read_boxed_row-in-Rec
read_type-returns-in_ok-read_boxed_row-in-Rec t c =
    rec_read (entry c.args.self.now.bindings.now.store) c.args.self.now.names.now c.args.ty.now c.in_ok-head.head.now c.in_ok-head.ensures.same c.in_ok-read_boxed_row-in-Rec.field-0 c.in-Rec.row c.in-Rec.is
    c.in_ok-read_boxed_row-in-Rec.ensures

pub read_type-returns-in_ok-read_boxed_row-in-Stream : goal.read_type-returns-in_ok-read_boxed_row-in-Stream
read_type-returns-in_ok-read_boxed_row-in-Stream t c =
    stream_read (entry c.args.self.now.bindings.now.store) c.args.self.now.names.now c.args.ty.now c.in_ok-head.head.now c.in_ok-head.ensures.same c.in_ok-read_boxed_row-in-Stream.field-0 c.in-Stream.row c.in-Stream.is
    c.in_ok-read_boxed_row-in-Stream.ensures

pub read_type-returns-in_ok-type_number-in-Var : goal.read_type-returns-in_ok-type_number-in-Var
read_type-returns-in_ok-type_number-in-Var t c =
    type_variable_read (entry c.args.self.now.bindings.now.store) c.args.self.now.names.now c.args.ty.now c.in_ok-head.head.now c.in_ok-head.ensures.same c.in-Var.number c.in_ok-type_number-in-Var.field-0 c.in-Var.is
    c.in_ok-head.ensures.free c.in_ok-type_number-in-Var.ensures

pub read_type-returns-in_ok-copy-in_default : goal.read_type-returns-in_ok-copy-in_default
read_type-returns-in_ok-copy-in_default t c =
    bare_read (entry c.args.self.now.bindings.now.store) c.args.self.now.names.now c.args.ty.now c.in_ok-head.head.now c.in_ok-head.ensures.same c.in_ok-copy-in_default.field-0 c.in_ok-copy-in_default.ensures
    c.in_default.not-Var c.in_default.not-Array c.in_default.not-Fun c.in_default.not-Rec c.in_default.not-Stream

pub read_view-returns-in-Absent : goal.read_view-returns-in-Absent
read_view-returns-in-Absent t c = view_absent (entry c.args.self.now.bindings.now.store) c.args.self.now.names.now c.args.found c.in-Absent.is

pub read_view-returns-in_ok-read_type-in-Is : goal.read_view-returns-in_ok-read_type-in-Is
read_view-returns-in_ok-read_type-in-Is t c =
    view_is (entry c.args.self.now.bindings.now.store) c.args.self.now.names.now c.args.found (part_seen c.args.found) c.in_ok-read_type-in-Is.field-0 (term c.in-Is.ty.now) (ap part_seen c.in-Is.is) refl
    c.in_ok-read_type-in-Is.ensures

pub read_view-returns-in_ok-field_number-in-Var : goal.read_view-returns-in_ok-field_number-in-Var
read_view-returns-in_ok-field_number-in-Var t c =
    view_variable (entry c.args.self.now.bindings.now.store) c.args.self.now.names.now (part_seen c.args.found) c.in-Var.number c.in_ok-field_number-in-Var.field-0 (ap part_seen c.in-Var.is) c.requires
    c.in_ok-field_number-in-Var.ensures

pub read_view-returns-in_ok-field_number-in-Slot : goal.read_view-returns-in_ok-field_number-in-Slot
read_view-returns-in_ok-field_number-in-Slot t c =
    view_slot (entry c.args.self.now.bindings.now.store) c.args.self.now.names.now (part_seen c.args.found) c.in-Slot.row _ c.in_ok-field_number-in-Slot.field-0 (ap part_seen c.in-Slot.is) c.requires
    c.in_ok-field_number-in-Slot.ensures
