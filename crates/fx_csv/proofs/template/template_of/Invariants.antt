use Rattle.std.proofs.Common.{◌≡◌, ◌∷◌, ◌++◌, take}
use Rattle.std.specs.Fmt.{decimal}
use Rattle.std.specs.FinMap as map
use Rattle.std.specs.List.{flat_map}
use Rattle.fx_base.specs.Text.{text_cmp}
use Rattle.fx_value.specs.declared.scalar.Scalar.{Scalar}
use Rattle.fx_csv.specs.Records.{comma, field_bytes}
use Rattle.fx_csv.specs.Rows.{cell_text}
use Rattle.fx_csv.specs.Templates.{piece_text}
use Rattle.fx_csv.proofs.template.template_of.Given as goal

abbrev pub invariant-loop-cell : goal.invariant-loop-cell
invariant-loop-cell l =
    (row : map.FinMap text_cmp Scalar)
    → flat_map (piece_text row) l.pieces.items ++ l.front.items
    ≡ (comma ∷ comma ∷ field_bytes (decimal l.number)) ++ flat_map (λ c. comma ∷ field_bytes (cell_text row c)) (take l.cell-index l.cells)
