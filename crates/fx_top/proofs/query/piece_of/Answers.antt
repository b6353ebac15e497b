use Rattle.std.proofs.Common.{◌≡◌, sym, ◌∙◌, ap}
use Rattle.fx_ast.specs.Shape.{a_piece, a_hole, tree_of, part}
use Rattle.fx_ast.proofs.ShapeLaws.{part_piece, part_hole}
use Rattle.fx_top.proofs.query.piece_of.Goals as goal

pub returns-in-Piece-clause-some : goal.returns-in-Piece-clause-some
returns-in-Piece-clause-some c = ap part c.in-Piece.is ∙ part_piece c.in-Piece.text

pub returns-in-Hole-clause-none : goal.returns-in-Hole-clause-none
returns-in-Hole-clause-none c = λ value h.
    let same : a_hole (tree_of c.in-Hole.field-0) ≡ a_piece value = sym (part_hole c.in-Hole.field-0) ∙ ap part (sym c.in-Hole.is) ∙ h in
    cc
