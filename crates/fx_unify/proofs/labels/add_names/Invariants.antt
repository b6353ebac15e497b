use Rattle.std.proofs.Common.{◌≡◌, true, take}
use Rattle.fx_types.specs.Ground.{listed}
use Rattle.fx_types.specs.Term.{Label}
use Rattle.fx_unify.specs.Known.{Knows}
use Rattle.fx_unify.specs.Rows.{Grows}
use Rattle.fx_unify.specs.Sums.{names}
use Rattle.fx_unify.proofs.labels.add_names.Given as goal

abbrev pub invariant-loop-entry : goal.invariant-loop-entry
invariant-loop-entry l =
    ((x : Label) → listed x (names (take l.entry-index l.entries)) ≡ true → listed x l.labels.items ≡ true) × Grows l.initial.labels.items l.labels.items

abbrev pub invariant-loop-entry-2 : goal.invariant-loop-entry-2
invariant-loop-entry-2 l =
    ((x : Label) → listed x (names (take l.entry-index l.entries)) ≡ true → listed x l.labels.items ≡ true) × Grows l.initial.labels.items l.labels.items × Knows l.known l.labels.items
