use Rattle.std.proofs.Common.{ap, ◌∙◌}
use Rattle.fx_ast.proofs.ShapeLaws.{part_piece}
use Rattle.fx_ast.specs.Shape.{part}
use Rattle.fx_rowfn.proofs.texts.piece_of.Goals as goal

pub returns-in-Piece : goal.returns-in-Piece
returns-in-Piece c = ap part c.in-Piece.is ∙ part_piece c.in-Piece.piece
