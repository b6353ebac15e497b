use Rattle.std.proofs.Common.{[], ◌∷◌, ◌∙◌, ap, sym}
use Rattle.fx_ast.proofs.ShapeLaws.{part_piece, part_hole}
use Rattle.fx_ast.specs.Shape.{part, parts_of}
use Rattle.fx_ast.specs.Tree.{tree, text}
use Rattle.fx_infer.specs.Words.{plain_text}
use Rattle.fx_infer.proofs.words.piece.Goals as goal

pub returns-in-Piece : goal.returns-in-Piece
returns-in-Piece c place = sym (ap (λ p. plain_text (tree place (text (parts_of (p ∷ []))))) (ap part c.in-Piece.is ∙ part_piece c.in-Piece.text))

pub returns-in-Hole : goal.returns-in-Hole
returns-in-Hole c place = sym (ap (λ p. plain_text (tree place (text (parts_of (p ∷ []))))) (ap part c.in-Hole.is ∙ part_hole c.in-Hole.field-0))
