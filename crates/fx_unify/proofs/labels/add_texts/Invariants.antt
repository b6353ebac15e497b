use Rattle.std.proofs.Common.{◌≡◌, true, map, take}
use Rattle.fx_types.specs.Ground.{listed}
use Rattle.fx_types.specs.Term.{Label}
use Rattle.fx_unify.specs.Known.{Knows}
use Rattle.fx_unify.specs.Rows.{Grows}
use Rattle.fx_unify.proofs.labels.add_texts.Given as goal

abbrev pub invariant-loop-label : goal.invariant-loop-label
invariant-loop-label l =
    ((x : Label) → listed x (map (λ y. y) (take l.label-index l.others)) ≡ true → listed x l.labels.items ≡ true) × Grows l.initial.labels.items l.labels.items

abbrev pub invariant-loop-label-2 : goal.invariant-loop-label-2
invariant-loop-label-2 l =
    ((x : Label) → listed x (map (λ y. y) (take l.label-index l.others)) ≡ true → listed x l.labels.items ≡ true) × Grows l.initial.labels.items l.labels.items × Knows l.known l.labels.items
