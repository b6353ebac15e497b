use Rattle.fx_ast.specs.Shape.{part, tree_of}
use Rattle.fx_rowfn.specs.State.{parts_from}
use Rattle.fx_rowfn.proofs.TextLaws.{piece_first}
use Rattle.fx_rowfn.proofs.texts.first_piece.Goals as goal

pub returns-in-Some : goal.returns-in-Some
returns-in-Some c =
    piece_first (parts_from (tree_of c.args.whole.now) 0) (parts_from (tree_of c.args.whole.now) 1) (part c.in-Some.first.now) c.piece_of.result c.in-Some.ensures.at c.piece_of.ensures
