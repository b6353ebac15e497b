use Rattle.std.proofs.Common.{◌+◌, ◌*◌, take, map}
use Rattle.fx_types.specs.Instance.{Solution}
use Rattle.fx_types.specs.Shape.{label_term, entry_term, labels_of, fields_of}
use Rattle.fx_unify.specs.Part.{Solved}
use Rattle.fx_unify.specs.PutIn.{LabelsPutIn, FieldsPutIn}
use Rattle.fx_unify.specs.Rows.{SameLabels, SameFields}
use Rattle.fx_unify.specs.Store.{entry}
use Rattle.fx_unify.proofs.store.Store.+apply.Given as goal

-- the fuel falls, and where it stays, the rank of the call does

abbrev pub decreases-apply_type : goal.decreases-apply_type
decreases-apply_type l = 16 * l.fuel

abbrev pub decreases-apply_element : goal.decreases-apply_element
decreases-apply_element l = 16 * l.fuel + 1

abbrev pub decreases-apply_function : goal.decreases-apply_function
decreases-apply_function l = 16 * l.fuel + 3

abbrev pub decreases-apply_parts : goal.decreases-apply_parts
decreases-apply_parts l = 16 * l.fuel + 2

abbrev pub decreases-apply_labels : goal.decreases-apply_labels
decreases-apply_labels l = 16 * l.fuel + 1

abbrev pub decreases-apply_pipe : goal.decreases-apply_pipe
decreases-apply_pipe l = 16 * l.fuel + 1

abbrev pub decreases-apply_row : goal.decreases-apply_row
decreases-apply_row l = 16 * l.fuel + 6

abbrev pub decreases-apply_fields : goal.decreases-apply_fields
decreases-apply_fields l = 16 * l.fuel + 5

abbrev pub decreases-apply_listed : goal.decreases-apply_listed
decreases-apply_listed l = 16 * l.fuel + 4

abbrev pub decreases-apply_rest : goal.decreases-apply_rest
decreases-apply_rest l = 16 * l.fuel + 4

abbrev pub decreases-apply_field : goal.decreases-apply_field
decreases-apply_field l = 16 * l.fuel + 3

abbrev pub decreases-apply_variable : goal.decreases-apply_variable
decreases-apply_variable l = 16 * l.fuel + 2

abbrev pub invariant-apply_labels-loop-entry : goal.invariant-apply_labels-loop-entry
invariant-apply_labels-loop-entry l =
    ((s : Solution) → Solved s (entry l.self) → SameLabels s l.applied (take l.entry-index l.entry-items))
    × LabelsPutIn (entry l.self) (labels_of (map label_term l.applied))

abbrev pub invariant-apply_listed-loop-entry : goal.invariant-apply_listed-loop-entry
invariant-apply_listed-loop-entry l =
    ((s : Solution) → Solved s (entry l.self) → SameFields s l.applied (take l.entry-index l.entry-items))
    × FieldsPutIn (entry l.self) (fields_of (map entry_term l.applied))
