use Rattle.std.proofs.Common.{◌∷◌, ap, sym, ◌∙◌}
use Rattle.fx_ast.specs.Shape.{tree_of}
use Rattle.fx_meaning.specs.Value.{cell}
use Rattle.fx_value.specs.declared.scalar.Scalar.TheVariants.{Text}
use Rattle.fx_values.specs.Shape.{val}
use Rattle.fx_values.specs.declared.value.Value.TheVariants as v
use Rattle.fx_values.proofs.ValueLaws.{val_cell}
use Rattle.fx_rowfn.specs.Frame.{unwound}
use Rattle.fx_rowfn.specs.State.{frame_of, left, left_then, parts_left, scope_of}
use Rattle.fx_rowfn.specs.declared.frame.Control.TheVariants as control
use Rattle.fx_rowfn.proofs.FrameLaws.{hole_left}
use Rattle.fx_rowfn.proofs.TextLaws.{hole_there, piece_there, piece_left}
use Rattle.fx_rowfn.proofs.texts.part_on.Goals as goal

pub returns-in_ok-next-in-Hole : goal.returns-in_ok-next-in-Hole
returns-in_ok-next-in-Hole c = λ test place before rest is limit fs.
    let scope = scope_of c.args.scope in
    let e = c.in-Hole.expr in
    ap (λ ps. parts_left test scope place ps before limit fs) (hole_there c.args.first.now e rest c.in-Hole.is)
    ∙ hole_left test limit fs scope place before (tree_of e) rest
    ∙ sym (ap (left_then test limit fs) c.in_ok-next-in-Hole.ensures ∙ ap (λ p. left test limit (p ∷ fs) (control.Eval c.args.scope e)) is)

pub returns-in_ok-copy-in-Piece : goal.returns-in_ok-copy-in-Piece
returns-in_ok-copy-in-Piece c = λ test place before rest is limit fs.
    let scope = scope_of c.args.scope in
    let s = c.in-Piece.piece in
    ap (λ ps. parts_left test scope place ps before limit fs) (piece_there c.args.first.now s rest c.in-Piece.is)
    ∙ piece_left test limit fs scope place before rest s
    ∙ sym (ap (λ p. unwound test limit (p ∷ fs) (cell (Text s))) is)
    ∙ ap (unwound test limit (frame_of c.args.frame ∷ fs)) (sym (val_cell (Text s)) ∙ ap (λ t. val (v.Cell (Text t))) (sym c.in_ok-copy-in-Piece.ensures))
