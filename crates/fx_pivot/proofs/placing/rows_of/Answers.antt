use Rattle.std.proofs.Common.{◌≡◌, map, ap, ◌∙◌}
use Rattle.std.proofs.lemmas.Result.{IfOk-weaker}
use Rattle.std.specs.FinMap as fin
use Rattle.fx_pivot.specs.Cells.{cells_by_place, pivot_row}
use Rattle.fx_pivot.specs.Ordered.{Places}
use Rattle.fx_pivot.specs.Pivot.{pivot_rows}
use Rattle.fx_pivot.specs.declared.placing.Line.{Line}
use Rattle.fx_pivot.proofs.Places.{rows_of_lines}
use Rattle.fx_pivot.proofs.placing.rows_of.Goals as goal

pub returns : goal.returns
returns c =
    let labels = c.args.labels.now in
    IfOk-weaker c.rows_in.result (λ rows. rows ≡ map (λ (x : Line). x.row) c.in_ok-lines.lines.items) (λ rows. rows ≡ pivot_rows labels c.args.cells)
    (λ rows is. is ∙ ap (map (λ (x : Line). x.row)) c.in_ok-lines.ensures ∙ rows_of_lines labels (cells_by_place c.in_ok-ordered.ordered.items)
    ∙ ap (λ (m : Places). map (pivot_row labels) (fin.entries m)) c.in_ok-ordered.ensures.places)
    c.rows_in.ensures
