use Rattle.std.proofs.Common.{◌+◌, ◌*◌, ◌≤◌, ◌++◌, map, take}
use Rattle.fx_types.specs.Instance.{ground_labels}
use Rattle.fx_types.specs.Shape.{row_term, label_term, labels_of}
use Rattle.fx_types.specs.Size.{Takes, Weighs}
use Rattle.fx_unify.specs.Counted.{Counted}
use Rattle.fx_unify.specs.Measure.{least, Admits}
use Rattle.fx_unify.specs.Rows.{ground_row}
use Rattle.fx_unify.specs.Sums.{Summed, names, row_names, required_names}
use Rattle.fx_unify.proofs.store.Store.+count.Given as goal

-- the room falls, and where it stays, the rank of the call does

abbrev pub decreases-count : goal.decreases-count
decreases-count l = 16 * l.room + 15

abbrev pub decreases-count_fields : goal.decreases-count_fields
decreases-count_fields l = 16 * l.room + 5

abbrev pub decreases-count_function : goal.decreases-count_function
decreases-count_function l = 16 * l.room + 11

abbrev pub decreases-count_closed : goal.decreases-count_closed
decreases-count_closed l = 16 * l.room + 7

abbrev pub decreases-count_labels : goal.decreases-count_labels
decreases-count_labels l = 16 * l.room + 6

abbrev pub decreases-count_open : goal.decreases-count_open
decreases-count_open l = 16 * l.room + 7

abbrev pub decreases-count_pipe : goal.decreases-count_pipe
decreases-count_pipe l = 16 * l.room + 16

abbrev pub decreases-count_required : goal.decreases-count_required
decreases-count_required l = 16 * l.room + 6

abbrev pub decreases-count_row : goal.decreases-count_row
decreases-count_row l = 16 * l.room + 8

abbrev pub decreases-weigh_field : goal.decreases-weigh_field
decreases-weigh_field l = 16 * l.room + 4

abbrev pub decreases-weigh_view : goal.decreases-weigh_view
decreases-weigh_view l = 16 * l.room + 2

abbrev pub decreases-weigh_type : goal.decreases-weigh_type
decreases-weigh_type l = 16 * l.room

abbrev pub invariant-count_fields-loop-i : goal.invariant-count_fields-loop-i
invariant-count_fields-loop-i l =
    (Summed (least l.self l.sorts) (Admits l.self l.sorts) Weighs (λ s. ground_row s (row_term l.row)) (names (take l.i l.entries)) l.sum × (l.sum ≤ l.room)) × Counted l.self l.sorts l.counts

abbrev pub invariant-count_labels-loop-i : goal.invariant-count_labels-loop-i
invariant-count_labels-loop-i l =
    (Summed (least l.self l.sorts) (Admits l.self l.sorts) Weighs (λ s. ground_row s (row_term l.row)) (row_names l.row ++ take l.i l.labels) l.sum × (l.sum ≤ l.room)) × Counted l.self l.sorts l.counts

abbrev pub invariant-count_required-loop-i : goal.invariant-count_required-loop-i
invariant-count_required-loop-i l =
    (Summed (least l.self l.sorts) (Admits l.self l.sorts) Takes (λ s. ground_labels s (labels_of (map label_term l.labels))) (required_names (take l.i l.entries)) l.sum × (l.sum ≤ l.room)) × Counted l.self l.sorts l.counts
