-- The pieces and the bytes behind them are the record of each row.
use Rattle.std.proofs.Common.{◌∷◌, ◌++◌, ◌∙◌, ap, sym, append_assoc}
use Rattle.std.specs.Fmt.{decimal}
use Rattle.std.specs.List.{flat_map}
use Rattle.std.proofs.lemmas.List.{take_all}
use Rattle.std.proofs.lemmas.List.Folds.{flat_map-map}
use Rattle.fx_csv.specs.Records.{comma, field_bytes, line_end}
use Rattle.fx_csv.specs.Rows.{cell_text}
use Rattle.fx_csv.specs.Templates.{piece_text}
use Rattle.fx_csv.proofs.template.template_of.Goals as goal

pub returns : goal.returns
returns c row =
    let cells = c.args.cells.now in
    let pieces = flat_map (piece_text row) c.loop-cell.pieces.items in
    let lead = comma ∷ comma ∷ field_bytes (decimal c.args.number) in
    ap (λ l. pieces ++ l) c.in_ok-extend_from_slice.ensures.items
    ∙ sym (append_assoc pieces c.loop-cell.front.items line_end)
    ∙ ap (λ l. l ++ line_end)
    (c.loop-cell.invariant row
    ∙ ap (λ l. lead ++ flat_map (λ c. comma ∷ field_bytes (cell_text row c)) l) (take_all c.loop-cell.cell-index cells c.loop-cell-test.false)
    ∙ ap (λ l. lead ++ l) (sym (flat_map-map (λ f. comma ∷ field_bytes f) (cell_text row) cells)))
