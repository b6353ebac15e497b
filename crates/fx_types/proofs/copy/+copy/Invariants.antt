use Rattle.std.proofs.Common.{◌≡◌, take}
use Rattle.fx_types.proofs.copy.+copy.Given as goal

abbrev pub invariant-copy_labels-loop-entry : goal.invariant-copy_labels-loop-entry
invariant-copy_labels-loop-entry l = l.copies ≡ take l.entry-index l.entry-items

abbrev pub invariant-copy_fields-loop-entry : goal.invariant-copy_fields-loop-entry
invariant-copy_fields-loop-entry l = l.copies ≡ take l.entry-index l.entry-items
