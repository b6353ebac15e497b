use Rattle.std.proofs.Common.{◌≡◌, ◌≤◌, ◌+◌, ◌^◌, map, take}
use Rattle.fx_types.specs.Numbers.{numbers_labels, numbers_fields}
use Rattle.fx_types.specs.Raised.{raised_labels, raised_fields}
use Rattle.fx_types.specs.Shape.{label_term, entry_term, labels_of, fields_of}
use Rattle.fx_types.proofs.raise.+raise.Given as goal

abbrev pub invariant-raise_labels-loop-entry : goal.invariant-raise_labels-loop-entry
invariant-raise_labels-loop-entry l =
    numbers_labels (labels_of (map label_term l.entry-items)) + l.by ≤ 2 ^ 32 → labels_of (map label_term l.raised) ≡ raised_labels l.by (labels_of (map label_term (take l.entry-index l.entry-items)))

abbrev pub invariant-raise_fields-loop-entry : goal.invariant-raise_fields-loop-entry
invariant-raise_fields-loop-entry l =
    numbers_fields (fields_of (map entry_term l.entry-items)) + l.by ≤ 2 ^ 32 → fields_of (map entry_term l.raised) ≡ raised_fields l.by (fields_of (map entry_term (take l.entry-index l.entry-items)))
