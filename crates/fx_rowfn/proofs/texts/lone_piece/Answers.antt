use Rattle.std.proofs.Common.{◌≡◌, subst}
use Rattle.std.specs.Option.{IfSome}
use Rattle.fx_ast.specs.Shape.{tree_of}
use Rattle.fx_ast.specs.Tree.{Parts, piece}
use Rattle.fx_rowfn.specs.State.{parts_from}
use Rattle.fx_rowfn.proofs.texts.lone_piece.Goals as goal

pub returns-in-None : goal.returns-in-None
returns-in-None c =
    subst (λ (ps : Parts). IfSome c.first_piece.result (λ s. parts_from (tree_of c.args.whole.now) 0 ≡ piece s.now ps)) c.in-None.ensures.at c.first_piece.ensures
