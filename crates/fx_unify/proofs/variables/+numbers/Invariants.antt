use Rattle.std.proofs.Common.{◌≡◌, map, max, drop}
use Rattle.fx_types.specs.Shape.{label_term, entry_term, labels_of, fields_of}
use Rattle.fx_types.specs.Numbers.{numbers_labels, numbers_fields}
use Rattle.fx_unify.proofs.variables.+numbers.Given as goal

abbrev pub invariant-label_numbers-loop-entry : goal.invariant-label_numbers-loop-entry
invariant-label_numbers-loop-entry l =
    max l.greatest (numbers_labels (labels_of (map label_term (drop l.entry-index l.entry-items)))) ≡ numbers_labels (labels_of (map label_term l.entry-items))

abbrev pub invariant-entry_numbers-loop-entry : goal.invariant-entry_numbers-loop-entry
invariant-entry_numbers-loop-entry l =
    max l.greatest (numbers_fields (fields_of (map entry_term (drop l.entry-index l.entry-items)))) ≡ numbers_fields (fields_of (map entry_term l.entry-items))
