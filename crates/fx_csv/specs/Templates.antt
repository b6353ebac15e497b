-- What the code keeps of a table to print its rows: the bytes that are the same in each of them, cut where a row's own
-- values stand.
use Rattle.std.specs.Prelude.{ℕ, List, ◌++◌, Option, unwrap_or}
use Rattle.std.specs.FinMap as map
use Rattle.std.specs.List.{flat_map}
use Rattle.fx_base.specs.Text.{text_cmp}
use Rattle.fx_value.specs.declared.scalar.Scalar.{Scalar}
use Rattle.fx_value.specs.declared.scalar.Scalar.TheVariants as scalar
use Rattle.fx_csv.specs.declared.template.Piece.{Piece}
use Rattle.fx_csv.specs.declared.template.Template.{Template}
use Rattle.fx_csv.specs.Cells.{scalar_text}
use Rattle.fx_csv.specs.Records.{field_bytes}

-- the text of a row's value at a label
abbrev pub own_text : Option Scalar → List ℕ
own_text value = scalar_text (unwrap_or value scalar.Null)

abbrev pub piece_text : map.FinMap text_cmp Scalar → Piece → List ℕ
piece_text row piece = piece.front.items ++ field_bytes (own_text (map.get row piece.label))

abbrev pub template_text : map.FinMap text_cmp Scalar → Template → List ℕ
template_text row template = flat_map (piece_text row) template.pieces.items ++ template.end.items
