use Rattle.std.proofs.Common.{◌≤◌, ◌+◌, ◌++◌, ◌∙◌, sym, ap, subst, Ok, Err, map, arith}
use Rattle.fx_types.specs.declared.term.Ty.TheVariants as ty
use Rattle.fx_types.specs.Ground.{listed}
use Rattle.fx_types.specs.Instance.{ground, ground_labels}
use Rattle.fx_types.specs.Shape.{term, row_term, label_term, labels_of}
use Rattle.fx_types.specs.Size.{Takes, Weighs}
use Rattle.fx_unify.specs.Measure.{least, Admits}
use Rattle.fx_unify.specs.Rows.{ground_row}
use Rattle.fx_unify.specs.Sums.{Summed, names, row_names}
use Rattle.fx_unify.specs.View.{part_seen}
use Rattle.fx_unify.proofs.KeptLaws.{type_over}
use Rattle.fx_unify.proofs.LeastLaws.{led}
use Rattle.fx_unify.proofs.MeasureLaws.{no_room}
use Rattle.fx_unify.proofs.SumLaws.{sum_start}
use Rattle.fx_unify.proofs.CountLaws.{array_ok, array_err, record_ok, record_err, stream_ok, stream_err, function_any, basic_ok, field_light, field_again, field_counted, field_refused, fields_done, label_again, label_added, label_refused, label_no_room, labels_done}
use Rattle.fx_unify.proofs.OpenLaws.{slot_light, slot_listed, slot_again, slot_more, slot_refused, slots_done, slots_start, names_refused, fields_err, closed_ok, closed_err, open_free, open_ok, open_err}
use Rattle.fx_unify.proofs.PlainRowLaws.{light_counted}
use Rattle.fx_unify.proofs.WeighLaws.{weighs_nothing, weighs_no_room, weighs_more, weighs_over, nothing_found, found_type, field_weighs, function_no_room, function_labels, function_pipe, function_result, function_ok, no_pipe_counts, pipe_counts}
use Rattle.fx_unify.proofs.store.Store.+count.Goals as goal

pub count-returns-then-room-eq0-clause-nodes : goal.count-returns-then-room-eq0-clause-nodes
count-returns-then-room-eq0-clause-nodes t c = no_room (least c.args.self.now c.args.sorts.now) (Admits c.args.self.now c.args.sorts.now) (λ s. ground s (term c.args.ty.now)) c.args.room c.if-room-eq0.true

pub count-returns-in-Ok-clause-nodes : goal.count-returns-in-Ok-clause-nodes
count-returns-in-Ok-clause-nodes t c =
    let one : 1 ≤ c.args.room = omega arith in
    array_ok c.args.self.now c.args.sorts.now c.args.ty.now c.in_ok-element.field-0.now c.in_ok-element.ensures.leads c.in_ok-element.ensures.same c.get.result.now c.in-Ok.nodes c.args.room
    (c.in-Array.is ∙ ap ty.Array (sym c.get.ensures)) one c.in-Ok.ensures.nodes

pub count-returns-in-Ok-clause-counts : goal.count-returns-in-Ok-clause-counts
count-returns-in-Ok-clause-counts t c =
    let one : 1 ≤ c.args.room = omega arith in
    c.keep_type-in-Ok.ensures c.args.sorts.now c.count.ensures.counts
    (array_ok c.args.self.now c.args.sorts.now c.args.ty.now c.in_ok-element.field-0.now c.in_ok-element.ensures.leads c.in_ok-element.ensures.same c.get.result.now c.in-Ok.nodes c.args.room
    (c.in-Array.is ∙ ap ty.Array (sym c.get.ensures)) one c.in-Ok.ensures.nodes).0

pub count-returns-in-Err-clause-nodes : goal.count-returns-in-Err-clause-nodes
count-returns-in-Err-clause-nodes t c =
    let one : 1 ≤ c.args.room = omega arith in
    array_err c.args.self.now c.args.sorts.now c.args.ty.now c.in_ok-element.field-0.now c.in_ok-element.ensures.leads c.in_ok-element.ensures.same c.get.result.now c.in-Err.fault c.args.room
    (c.in-Array.is ∙ ap ty.Array (sym c.get.ensures)) one c.in-Err.ensures.nodes

pub count-returns-in-Ok-count_function-clause-nodes : goal.count-returns-in-Ok-count_function-clause-nodes
count-returns-in-Ok-count_function-clause-nodes t c =
    function_any c.args.self.now c.args.sorts.now c.args.ty.now c.in_ok-element.field-0.now c.in_ok-element.ensures.leads c.in_ok-element.ensures.same c.get-in-Fun.result.now (Ok c.in-Ok-count_function.nodes) c.args.room (c.in-Fun.is ∙ ap ty.Fun (sym c.get-in-Fun.ensures)) c.in-Ok-count_function.ensures.nodes

pub count-returns-in-Err-count_function-clause-nodes : goal.count-returns-in-Err-count_function-clause-nodes
count-returns-in-Err-count_function-clause-nodes t c =
    function_any c.args.self.now c.args.sorts.now c.args.ty.now c.in_ok-element.field-0.now c.in_ok-element.ensures.leads c.in_ok-element.ensures.same c.get-in-Fun.result.now (Err c.in-Err-count_function.fault) c.args.room (c.in-Fun.is ∙ ap ty.Fun (sym c.get-in-Fun.ensures)) c.in-Err-count_function.ensures.nodes

pub count-returns-in-Ok-count_function-clause-counts : goal.count-returns-in-Ok-count_function-clause-counts
count-returns-in-Ok-count_function-clause-counts t c =
    c.keep_type-in-Ok-count_function.ensures c.args.sorts.now c.count_function.ensures.counts
    (function_any c.args.self.now c.args.sorts.now c.args.ty.now c.in_ok-element.field-0.now c.in_ok-element.ensures.leads c.in_ok-element.ensures.same c.get-in-Fun.result.now (Ok c.in-Ok-count_function.nodes) c.args.room (c.in-Fun.is ∙ ap ty.Fun (sym c.get-in-Fun.ensures)) c.in-Ok-count_function.ensures.nodes).0

pub count-returns-in-Ok-count_row-clause-nodes : goal.count-returns-in-Ok-count_row-clause-nodes
count-returns-in-Ok-count_row-clause-nodes t c =
    let one : 1 ≤ c.args.room = omega arith in
    record_ok c.args.self.now c.args.sorts.now c.args.ty.now c.in_ok-element.field-0.now c.in_ok-element.ensures.leads c.in_ok-element.ensures.same c.get-in-Rec.result.now
    c.in-Ok-count_row.nodes c.args.room (c.in-Rec.is ∙ ap ty.Rec (sym c.get-in-Rec.ensures)) one c.in-Ok-count_row.ensures.nodes

pub count-returns-in-Ok-count_row-clause-counts : goal.count-returns-in-Ok-count_row-clause-counts
count-returns-in-Ok-count_row-clause-counts t c =
    let one : 1 ≤ c.args.room = omega arith in
    c.keep_type-in-Ok-count_row.ensures c.args.sorts.now c.count_row.ensures.counts
    (record_ok c.args.self.now c.args.sorts.now c.args.ty.now c.in_ok-element.field-0.now c.in_ok-element.ensures.leads c.in_ok-element.ensures.same c.get-in-Rec.result.now
    c.in-Ok-count_row.nodes c.args.room (c.in-Rec.is ∙ ap ty.Rec (sym c.get-in-Rec.ensures)) one c.in-Ok-count_row.ensures.nodes).0

pub count-returns-in-Err-count_row-clause-nodes : goal.count-returns-in-Err-count_row-clause-nodes
count-returns-in-Err-count_row-clause-nodes t c =
    let one : 1 ≤ c.args.room = omega arith in
    record_err c.args.self.now c.args.sorts.now c.args.ty.now c.in_ok-element.field-0.now c.in_ok-element.ensures.leads c.in_ok-element.ensures.same c.get-in-Rec.result.now
    c.in-Err-count_row.fault c.args.room (c.in-Rec.is ∙ ap ty.Rec (sym c.get-in-Rec.ensures)) one c.in-Err-count_row.ensures.nodes

pub count-returns-in-Ok-count_row-2-clause-nodes : goal.count-returns-in-Ok-count_row-2-clause-nodes
count-returns-in-Ok-count_row-2-clause-nodes t c =
    let one : 1 ≤ c.args.room = omega arith in
    stream_ok c.args.self.now c.args.sorts.now c.args.ty.now c.in_ok-element.field-0.now c.in_ok-element.ensures.leads c.in_ok-element.ensures.same c.get-in-Stream.result.now
    c.in-Ok-count_row-2.field-0 c.args.room (c.in-Stream.is ∙ ap ty.Stream (sym c.get-in-Stream.ensures)) one c.in-Ok-count_row-2.ensures.nodes

pub count-returns-in-Ok-count_row-2-clause-counts : goal.count-returns-in-Ok-count_row-2-clause-counts
count-returns-in-Ok-count_row-2-clause-counts t c =
    let one : 1 ≤ c.args.room = omega arith in
    c.keep_type-in-Ok-count_row-2.ensures c.args.sorts.now c.count_row-in-Stream.ensures.counts
    (stream_ok c.args.self.now c.args.sorts.now c.args.ty.now c.in_ok-element.field-0.now c.in_ok-element.ensures.leads c.in_ok-element.ensures.same c.get-in-Stream.result.now
    c.in-Ok-count_row-2.field-0 c.args.room (c.in-Stream.is ∙ ap ty.Stream (sym c.get-in-Stream.ensures)) one c.in-Ok-count_row-2.ensures.nodes).0

pub count-returns-in-Err-count_row-2-clause-nodes : goal.count-returns-in-Err-count_row-2-clause-nodes
count-returns-in-Err-count_row-2-clause-nodes t c =
    stream_err c.args.self.now c.args.sorts.now c.args.ty.now c.in_ok-element.field-0.now c.in_ok-element.ensures.leads c.in_ok-element.ensures.same c.get-in-Stream.result.now
    c.in-Err-count_row-2.fault c.args.room (c.in-Stream.is ∙ ap ty.Stream (sym c.get-in-Stream.ensures)) c.in-Err-count_row-2.ensures.nodes

pub count-returns-in_default-2 : goal.count-returns-in_default-2
count-returns-in_default-2 t c = record {
  counts = c.requires;
  nodes = let one : 1 ≤ c.args.room = omega arith in
      basic_ok c.args.self.now c.args.sorts.now c.args.ty.now c.in_ok-element.field-0.now c.in_ok-element.ensures.leads c.in_ok-element.ensures.same c.args.room c.in_ok-element.ensures.free
      c.in_default-2.not-Array c.in_default-2.not-Fun c.in_default-2.not-Rec c.in_default-2.not-Stream one;
}

pub count-returns-then-room-nodes-clause-counts : goal.count-returns-then-room-nodes-clause-counts
count-returns-then-room-nodes-clause-counts t c = c.keep_type.ensures c.args.sorts.now c.requires (c.in-Some.ensures c.args.sorts.now c.requires)

pub count-returns-then-room-nodes-clause-nodes : goal.count-returns-then-room-nodes-clause-nodes
count-returns-then-room-nodes-clause-nodes t c =
    type_over c.args.self.now c.args.sorts.now c.args.ty.now c.in-Some.nodes c.args.room (c.in-Some.ensures c.args.sorts.now c.requires) c.if-room-nodes.true

pub count-returns-in-Some-clause-counts : goal.count-returns-in-Some-clause-counts
count-returns-in-Some-clause-counts t c = c.keep_type.ensures c.args.sorts.now c.requires (c.in-Some.ensures c.args.sorts.now c.requires)

pub count-returns-in-Some-clause-nodes : goal.count-returns-in-Some-clause-nodes
count-returns-in-Some-clause-nodes t c = (c.in-Some.ensures c.args.sorts.now c.requires, c.if-room-nodes.false)

pub count_fields-loop-i-init : goal.count_fields-loop-i-init
count_fields-loop-i-init t c =
    ((sum_start (least c.args.self.now c.args.sorts.now) (Admits c.args.self.now c.args.sorts.now) Weighs (λ s. ground_row s (row_term c.args.row.now)), omega arith), c.requires)

pub count_fields-loop-i-preserved-then-is_nothing : goal.count_fields-loop-i-preserved-then-is_nothing
count_fields-loop-i-preserved-then-is_nothing t c = (
  field_light c.args.self.now c.args.sorts.now c.args.row.now c.as_slice-entries.result.now c.loop-i.i c.index-entries-i.result c.as_slice-entries.ensures c.loop-i-test.true c.index-entries-i.is c.loop-i.sum c.args.room
      c.loop-i.invariant.0 c.weigh_field-weight.result (c.is_nothing.ensures c.if-is_nothing.true) c.weigh_field-weight.ensures.nodes,
  c.weigh_field-weight.ensures.counts,
)

pub count_fields-loop-i-preserved-then-has_label : goal.count_fields-loop-i-preserved-then-has_label
count_fields-loop-i-preserved-then-has_label t c = (
  field_again c.args.self.now c.args.sorts.now c.args.row.now c.as_slice-entries.result.now c.loop-i.i c.index-entries-i.result c.as_slice-entries.ensures c.loop-i-test.true c.index-entries-i.is c.loop-i.sum c.args.room
      c.loop-i.invariant.0 (sym c.has_label.ensures ∙ c.if-has_label.true),
  c.weigh_field-weight.ensures.counts,
)

pub count_fields-returns-in-Err-clause-nodes : goal.count_fields-returns-in-Err-clause-nodes
count_fields-returns-in-Err-clause-nodes t c =
    field_refused c.args.self.now c.args.sorts.now c.args.row.now c.as_slice-entries.result.now c.loop-i.i c.index-entries-i.result c.as_slice-entries.ensures c.loop-i-test.true c.index-entries-i.is c.loop-i.sum c.args.room
    c.loop-i.invariant.0 c.weigh_field-weight.result c.in-Err.fault c.in-Err.is (sym c.has_label.ensures ∙ c.if-has_label.false) c.weigh_field-weight.ensures.nodes

pub count_fields-loop-i-preserved : goal.count_fields-loop-i-preserved
count_fields-loop-i-preserved t c = (
  field_counted c.args.self.now c.args.sorts.now c.args.row.now c.as_slice-entries.result.now c.loop-i.i c.index-entries-i.result c.as_slice-entries.ensures c.loop-i-test.true c.index-entries-i.is c.loop-i.sum c.args.room
      c.loop-i.invariant.0 c.weigh_field-weight.result c.in-Ok.nodes c.in-Ok.is (sym c.has_label.ensures ∙ c.if-has_label.false) c.weigh_field-weight.ensures.nodes,
  c.weigh_field-weight.ensures.counts,
)

pub count_fields-returns-clause-nodes : goal.count_fields-returns-clause-nodes
count_fields-returns-clause-nodes t c =
    fields_done c.args.self.now c.args.sorts.now c.args.row.now c.as_slice-entries.result.now c.loop-i.i c.loop-i.sum c.args.room c.as_slice-entries.ensures c.loop-i-test.false c.loop-i.invariant.0

pub count_function-returns-then-room-eq0-clause-nodes : goal.count_function-returns-then-room-eq0-clause-nodes
count_function-returns-then-room-eq0-clause-nodes t c =
    function_no_room c.args.self.now c.args.sorts.now c.args.function.now c.args.room c.if-room-eq0.true

pub count_function-returns-in-Err-clause-nodes : goal.count_function-returns-in-Err-clause-nodes
count_function-returns-in-Err-clause-nodes t c =
    let one : 1 ≤ c.args.room = omega arith in
    function_labels c.args.self.now c.args.sorts.now c.args.function.now c.args.room c.in-Err.fault one c.in-Err.ensures.nodes

pub count_function-returns-in-Err-count_pipe-clause-nodes : goal.count_function-returns-in-Err-count_pipe-clause-nodes
count_function-returns-in-Err-count_pipe-clause-nodes t c =
    let one : 1 ≤ c.args.room = omega arith in
    function_pipe c.args.self.now c.args.sorts.now c.args.function.now c.args.room c.in-Err-count_pipe.fault c.in-Ok.nodes one c.in-Ok.ensures.nodes c.in-Err-count_pipe.ensures.nodes

pub count_function-returns-in-Ok-count-clause-nodes : goal.count_function-returns-in-Ok-count-clause-nodes
count_function-returns-in-Ok-count-clause-nodes t c =
    let one : 1 ≤ c.args.room = omega arith in
    function_ok c.args.self.now c.args.sorts.now c.args.function.now c.args.room c.in-Ok.nodes c.in-Ok-count_pipe.nodes c.in-Ok-count.nodes one c.in-Ok.ensures.nodes c.in-Ok-count_pipe.ensures.nodes c.in-Ok-count.ensures.nodes

pub count_function-returns-in-Err-count-clause-nodes : goal.count_function-returns-in-Err-count-clause-nodes
count_function-returns-in-Err-count-clause-nodes t c =
    let one : 1 ≤ c.args.room = omega arith in
    function_result c.args.self.now c.args.sorts.now c.args.function.now c.args.room c.in-Err-count.fault c.in-Ok.nodes c.in-Ok-count_pipe.nodes one c.in-Ok.ensures.nodes c.in-Ok-count_pipe.ensures.nodes c.in-Err-count.ensures.nodes

pub count_labels-loop-i-init : goal.count_labels-loop-i-init
count_labels-loop-i-init t c =
    (slots_start c.args.self.now c.args.sorts.now c.args.row.now c.in-Ok.nodes c.args.room c.in-Ok.ensures.nodes, c.in-Ok.ensures.counts)

pub count_labels-loop-i-preserved-then-is_nothing : goal.count_labels-loop-i-preserved-then-is_nothing
count_labels-loop-i-preserved-then-is_nothing t c = (
  slot_light c.args.self.now c.args.sorts.now c.args.row.now c.args.number c.requires.open c.args.labels.now c.loop-i.i c.index-labels-i.result c.loop-i-test.true c.index-labels-i.is
      c.loop-i.sum c.args.room c.loop-i.invariant.0 c.weigh_view-weight.result (c.is_nothing.ensures c.if-is_nothing.true) c.weigh_view-weight.ensures.nodes,
  c.weigh_view-weight.ensures.counts,
)

pub count_labels-loop-i-preserved-then-has_label : goal.count_labels-loop-i-preserved-then-has_label
count_labels-loop-i-preserved-then-has_label t c = (
  slot_listed c.args.self.now c.args.sorts.now c.args.row.now c.args.number c.requires.open c.args.labels.now c.loop-i.i c.index-labels-i.result c.loop-i-test.true c.index-labels-i.is
      c.loop-i.sum c.args.room c.loop-i.invariant.0 (sym (c.has_label.ensures ∙ ap (λ es. listed c.index-labels-i.result (names es)) c.as_slice.ensures) ∙ c.if-has_label.true),
  c.weigh_view-weight.ensures.counts,
)

pub count_labels-loop-i-preserved-then-has_text : goal.count_labels-loop-i-preserved-then-has_text
count_labels-loop-i-preserved-then-has_text t c = (
  slot_again c.args.self.now c.args.sorts.now c.args.row.now c.args.number c.requires.open c.args.labels.now c.loop-i.i c.index-labels-i.result c.loop-i-test.true c.index-labels-i.is
      c.loop-i.sum c.args.room c.loop-i.invariant.0 (sym c.has_text.ensures ∙ c.if-has_text.true),
  c.weigh_view-weight.ensures.counts,
)

pub count_labels-overflow_add-sum : goal.count_labels-overflow_add-sum
count_labels-overflow_add-sum t c =
    let le : c.loop-i.sum + c.in-Ok-weight.nodes ≤ c.args.room =
    (slot_more c.args.self.now c.args.sorts.now c.args.row.now c.args.number c.requires.open c.args.labels.now c.loop-i.i c.index-labels-i.result c.loop-i-test.true c.index-labels-i.is
    c.loop-i.sum c.args.room c.loop-i.invariant.0 c.weigh_view-weight.result c.in-Ok-weight.nodes c.in-Ok-weight.is (sym (c.has_label.ensures ∙ ap (λ es. listed c.index-labels-i.result (names es)) c.as_slice.ensures) ∙ c.if-has_label.false) (sym c.has_text.ensures ∙ c.if-has_text.false) c.weigh_view-weight.ensures.nodes).1 in
    omega arith

pub count_labels-returns-in-Err-weight-clause-nodes : goal.count_labels-returns-in-Err-weight-clause-nodes
count_labels-returns-in-Err-weight-clause-nodes t c =
    slot_refused c.args.self.now c.args.sorts.now c.args.row.now c.args.number c.requires.open c.args.labels.now c.loop-i.i c.index-labels-i.result c.loop-i-test.true c.index-labels-i.is
    c.loop-i.sum c.args.room c.loop-i.invariant.0 c.weigh_view-weight.result c.in-Err-weight.fault (row_names c.args.row.now ++ c.args.labels.now) c.in-Err-weight.is (sym (c.has_label.ensures ∙ ap (λ es. listed c.index-labels-i.result (names es)) c.as_slice.ensures) ∙ c.if-has_label.false) (sym c.has_text.ensures ∙ c.if-has_text.false) c.weigh_view-weight.ensures.nodes

pub count_labels-returns-in-Err-clause-nodes : goal.count_labels-returns-in-Err-clause-nodes
count_labels-returns-in-Err-clause-nodes t c =
    names_refused c.args.self.now c.args.sorts.now c.args.row.now c.in-Err.fault (row_names c.args.row.now) (row_names c.args.row.now ++ c.args.labels.now) c.args.room c.in-Err.ensures.nodes

pub count_labels-loop-i-preserved : goal.count_labels-loop-i-preserved
count_labels-loop-i-preserved t c = (
  slot_more c.args.self.now c.args.sorts.now c.args.row.now c.args.number c.requires.open c.args.labels.now c.loop-i.i c.index-labels-i.result c.loop-i-test.true c.index-labels-i.is
      c.loop-i.sum c.args.room c.loop-i.invariant.0 c.weigh_view-weight.result c.in-Ok-weight.nodes c.in-Ok-weight.is (sym (c.has_label.ensures ∙ ap (λ es. listed c.index-labels-i.result (names es)) c.as_slice.ensures) ∙ c.if-has_label.false) (sym c.has_text.ensures ∙ c.if-has_text.false) c.weigh_view-weight.ensures.nodes,
  c.weigh_view-weight.ensures.counts,
)

pub count_labels-returns-clause-nodes : goal.count_labels-returns-clause-nodes
count_labels-returns-clause-nodes t c =
    slots_done c.args.self.now c.args.sorts.now c.args.row.now c.args.labels.now c.loop-i.i c.loop-i.sum c.args.room c.loop-i-test.false c.loop-i.invariant.0

pub count_open-returns-then-branch-clause-nodes : goal.count_open-returns-then-branch-clause-nodes
count_open-returns-then-branch-clause-nodes t c =
    light_counted c.args.self.now c.args.sorts.now c.args.row.now c.args.number c.requires.open (c.in_ok-is_light.ensures.light c.if-branch.true) c.count_fields.result c.args.room
    c.count_fields.ensures.nodes

pub count_open-returns-in-Err-clause-nodes : goal.count_open-returns-in-Err-clause-nodes
count_open-returns-in-Err-clause-nodes t c =
    fields_err c.args.self.now c.args.sorts.now c.args.row.now (row_names c.args.row.now ++ c.as_slice.result.now) c.in-Err.fault c.args.room c.in-Err.ensures.nodes

pub count_open-returns-clause-nodes : goal.count_open-returns-clause-nodes
count_open-returns-clause-nodes t c =
    open_err c.args.self.now c.args.sorts.now c.args.row.now c.follow.new.labels.items c.in_ok-root.root c.in-Default.field c.in-Err-weigh_field.fault c.args.room c.in-Default.is c.in_ok-root.ensures.same
    c.in-Err-weigh_field.ensures.nodes

pub count_open-returns-in-Var-clause-nodes : goal.count_open-returns-in-Var-clause-nodes
count_open-returns-in-Var-clause-nodes t c =
    open_free c.args.self.now c.args.sorts.now c.args.row.now c.follow.new.labels.items c.in_ok-root.root c.in-Var.field-0 c.in-Ok.nodes c.args.room c.in-Var.is c.in_ok-root.ensures.leads
    c.in_ok-root.ensures.free c.in_ok-root.ensures.kept
    (subst (λ ls. Summed (least c.args.self.now c.args.sorts.now) (Admits c.args.self.now c.args.sorts.now) Weighs (λ s. ground_row s (row_term c.args.row.now)) (row_names c.args.row.now ++ ls) c.in-Ok.nodes × (c.in-Ok.nodes ≤ c.args.room)) c.as_slice.ensures.value c.in-Ok.ensures.nodes)

pub count_open-returns-in-Ok-weigh_field-clause-nodes : goal.count_open-returns-in-Ok-weigh_field-clause-nodes
count_open-returns-in-Ok-weigh_field-clause-nodes t c =
    open_ok c.args.self.now c.args.sorts.now c.args.row.now c.follow.new.labels.items c.in_ok-root.root c.in-Default.field c.in-Ok.nodes c.in-Ok-weigh_field.field-0 c.args.room c.in-Default.is
    c.in_ok-root.ensures.leads
    (subst (λ ls. Summed (least c.args.self.now c.args.sorts.now) (Admits c.args.self.now c.args.sorts.now) Weighs (λ s. ground_row s (row_term c.args.row.now)) (row_names c.args.row.now ++ ls) c.in-Ok.nodes × (c.in-Ok.nodes ≤ c.args.room)) c.as_slice.ensures.value c.in-Ok.ensures.nodes)
    c.in-Ok-weigh_field.ensures.nodes

pub count_pipe-returns-in-Some-clause-nodes : goal.count_pipe-returns-in-Some-clause-nodes
count_pipe-returns-in-Some-clause-nodes t c =
    pipe_counts c.args.self.now c.args.sorts.now c.args.pipe.now c.in-Some.ty c.count.result c.args.room c.in-Some.is c.count.ensures.nodes

pub count_pipe-returns-in-None-clause-nodes : goal.count_pipe-returns-in-None-clause-nodes
count_pipe-returns-in-None-clause-nodes t c =
    no_pipe_counts c.args.self.now c.args.sorts.now c.args.pipe.now c.args.room c.in-None.is

pub count_required-loop-i-init : goal.count_required-loop-i-init
count_required-loop-i-init t c =
    ((sum_start (least c.args.self.now c.args.sorts.now) (Admits c.args.self.now c.args.sorts.now) Takes (λ s. ground_labels s (labels_of (map label_term c.args.labels.now))), omega arith), c.requires)

pub count_required-loop-i-preserved-then-is_required : goal.count_required-loop-i-preserved-then-is_required
count_required-loop-i-preserved-then-is_required t c = (
  label_again c.args.self.now c.args.sorts.now c.args.labels.now c.as_slice-entries.result.now c.loop-i.i c.index-entries-i.result c.as_slice-entries.ensures c.loop-i-test.true c.index-entries-i.is c.loop-i.sum c.args.room
      c.loop-i.invariant.0 (sym c.is_required.ensures ∙ c.if-is_required.true),
  c.loop-i.invariant.1,
)

pub count_required-returns-then-sum-room-clause-nodes : goal.count_required-returns-then-sum-room-clause-nodes
count_required-returns-then-sum-room-clause-nodes t c =
    label_no_room c.args.self.now c.args.sorts.now c.args.labels.now c.as_slice-entries.result.now c.loop-i.i c.index-entries-i.result c.as_slice-entries.ensures c.loop-i-test.true c.index-entries-i.is c.loop-i.sum c.args.room
    c.loop-i.invariant.0 (sym c.is_required.ensures ∙ c.if-is_required.false) c.if-sum-room.true

pub count_required-returns-in-Err-clause-nodes : goal.count_required-returns-in-Err-clause-nodes
count_required-returns-in-Err-clause-nodes t c =
    label_refused c.args.self.now c.args.sorts.now c.args.labels.now c.as_slice-entries.result.now c.loop-i.i c.index-entries-i.result c.as_slice-entries.ensures c.loop-i-test.true c.index-entries-i.is c.loop-i.sum c.args.room
    c.loop-i.invariant.0 c.in-Err.fault (sym c.is_required.ensures ∙ c.if-is_required.false) c.if-sum-room.false c.in-Err.ensures.nodes

pub count_required-loop-i-preserved : goal.count_required-loop-i-preserved
count_required-loop-i-preserved t c = (
  label_added c.args.self.now c.args.sorts.now c.args.labels.now c.as_slice-entries.result.now c.loop-i.i c.index-entries-i.result c.as_slice-entries.ensures c.loop-i-test.true c.index-entries-i.is c.loop-i.sum c.args.room
      c.loop-i.invariant.0 c.in-Ok.nodes (sym c.is_required.ensures ∙ c.if-is_required.false) c.if-sum-room.false c.in-Ok.ensures.nodes,
  c.count.ensures.counts,
)

pub count_required-returns-clause-nodes : goal.count_required-returns-clause-nodes
count_required-returns-clause-nodes t c =
    labels_done c.args.self.now c.args.sorts.now c.args.labels.now c.as_slice-entries.result.now c.loop-i.i c.loop-i.sum c.args.room c.as_slice-entries.ensures c.loop-i-test.false c.loop-i.invariant.0

pub count_closed-returns-in-Err-clause-nodes : goal.count_closed-returns-in-Err-clause-nodes
count_closed-returns-in-Err-clause-nodes t c =
    fields_err c.args.self.now c.args.sorts.now c.args.row.now (row_names c.args.row.now) c.in-Err.fault c.args.room c.in-Err.ensures.nodes

pub count_closed-returns-in-Ok-weigh_field-clause-nodes : goal.count_closed-returns-in-Ok-weigh_field-clause-nodes
count_closed-returns-in-Ok-weigh_field-clause-nodes t c =
    closed_ok c.args.self.now c.args.sorts.now c.args.row.now c.args.field.now c.in-Ok.nodes c.in-Ok-weigh_field.field-0 c.args.room c.requires.closed c.in-Ok.ensures.nodes c.in-Ok-weigh_field.ensures.nodes

pub count_closed-returns-in-Err-weigh_field-clause-nodes : goal.count_closed-returns-in-Err-weigh_field-clause-nodes
count_closed-returns-in-Err-weigh_field-clause-nodes t c =
    closed_err c.args.self.now c.args.sorts.now c.args.row.now c.args.field.now c.in-Err-weigh_field.fault c.args.room c.requires.closed c.in-Err-weigh_field.ensures.nodes

pub weigh_field-returns-clause-nodes : goal.weigh_field-returns-clause-nodes
weigh_field-returns-clause-nodes t c =
    field_weighs c.args.self.now c.args.sorts.now c.args.field.now (part_seen c.view_of.result) c.weigh_view.result c.args.room c.view_of.ensures c.weigh_view.ensures.nodes

pub weigh_view-returns-in-Is-clause-nodes : goal.weigh_view-returns-in-Is-clause-nodes
weigh_view-returns-in-Is-clause-nodes t c =
    led c.args.self.now c.args.sorts.now Weighs (part_seen c.args.view) (part_seen c.in_ok-found.found) c.in_ok-found.ensures.leads c.in_ok-found.ensures.same c.weigh_type.result c.args.room
    (found_type c.args.self.now c.args.sorts.now Weighs c.in_ok-found.found c.in-Is.ty c.weigh_type.result c.args.room c.in-Is.is c.weigh_type.ensures.nodes)

pub weigh_view-returns-in_default : goal.weigh_view-returns-in_default
weigh_view-returns-in_default t c = record {
  counts = c.requires;
  nodes = led c.args.self.now c.args.sorts.now Weighs (part_seen c.args.view) (part_seen c.in_ok-found.found) c.in_ok-found.ensures.leads c.in_ok-found.ensures.same (Ok 0) c.args.room
      (nothing_found c.args.self.now c.args.sorts.now Weighs c.in_ok-found.found c.args.room tt c.in_default.not-Is c.in_ok-found.ensures.free);
}

pub weigh_type-returns-then-is_light_type-clause-nodes : goal.weigh_type-returns-then-is_light_type-clause-nodes
weigh_type-returns-then-is_light_type-clause-nodes t c =
    weighs_nothing c.args.self.now c.args.sorts.now c.args.ty.now c.in_ok-head.head.now c.in_ok-head.ensures.leads c.in_ok-head.ensures.same c.is_light_type.result c.is_light_type.ensures c.args.room c.if-is_light_type.true c.in_ok-head.ensures.free

pub weigh_type-returns-then-room-eq0-clause-nodes : goal.weigh_type-returns-then-room-eq0-clause-nodes
weigh_type-returns-then-room-eq0-clause-nodes t c =
    weighs_no_room c.args.self.now c.args.sorts.now c.args.ty.now c.in_ok-head.head.now c.in_ok-head.ensures.leads c.in_ok-head.ensures.same c.is_light_type.result c.is_light_type.ensures c.args.room c.if-is_light_type.false c.if-room-eq0.true

pub weigh_type-returns-in-Ok-clause-nodes : goal.weigh_type-returns-in-Ok-clause-nodes
weigh_type-returns-in-Ok-clause-nodes t c =
    let one : 1 ≤ c.args.room = omega arith in
    weighs_more c.args.self.now c.args.sorts.now c.args.ty.now c.in_ok-head.head.now c.in_ok-head.ensures.leads c.in_ok-head.ensures.same c.is_light_type.result c.is_light_type.ensures c.args.room c.in-Ok.nodes c.if-is_light_type.false one c.in-Ok.ensures.nodes

pub weigh_type-returns-in-Err-clause-nodes : goal.weigh_type-returns-in-Err-clause-nodes
weigh_type-returns-in-Err-clause-nodes t c =
    let one : 1 ≤ c.args.room = omega arith in
    weighs_over c.args.self.now c.args.sorts.now c.args.ty.now c.in_ok-head.head.now c.in_ok-head.ensures.leads c.in_ok-head.ensures.same c.is_light_type.result c.is_light_type.ensures c.args.room c.in-Err.fault c.if-is_light_type.false one c.in-Err.ensures.nodes
