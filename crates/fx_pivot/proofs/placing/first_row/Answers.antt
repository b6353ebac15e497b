use Rattle.std.proofs.Common.{◌≡◌, ◌+◌, ℕ, List, ◌∷◌, drop, sym, ap, ◌∙◌, arith}
use Rattle.std.proofs.lemmas.List.{drop_more}
use Rattle.std.specs.Prelude.{Option}
use Rattle.fx_value.specs.declared.scalar.Scalar.{Scalar}
use Rattle.fx_pivot.specs.Cells.{with_values}
use Rattle.fx_pivot.specs.Ordered.{with_value}
use Rattle.fx_pivot.proofs.Values.{values_more}
use Rattle.fx_pivot.proofs.placing.first_row.Goals as goal

pub loop-i-preserved : goal.loop-i-preserved
loop-i-preserved c =
    let labels = c.args.labels.now in
    let values = c.args.values.now in
    let i = c.loop-i.i in
    let label = c.index-labels-i.result in
    let split : drop i labels ≡ label ∷ drop (i + 1) labels = drop_more labels i label (omega arith) ∙ ap (λ (l : List ℕ). l ∷ drop (i + 1) labels) (sym c.index-labels-i.is) in
    ap (with_values (drop (i + 1) labels) (drop (i + 1) values)) (c.in_ok-row-2.ensures ∙ ap (λ (o : Option Scalar). with_value c.loop-i.row label o) c.value_in.ensures)
    ∙ values_more labels values i label c.loop-i.row split ∙ c.loop-i.invariant
