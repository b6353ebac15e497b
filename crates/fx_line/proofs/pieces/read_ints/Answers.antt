use Rattle.std.proofs.Common.{◌≡◌, ◌∷◌, ◌++◌, drop, sym, ap, ◌∙◌, arith}
use Rattle.std.proofs.lemmas.List.{drop_all}
use Rattle.fx_line.proofs.PieceLaw.{next_piece, all_read}
use Rattle.fx_line.proofs.pieces.read_ints.Goals as goal

pub loop-piece-preserved : goal.loop-piece-preserved
loop-piece-preserved c =
    next_piece c.args.pieces.now c.loop-piece.piece-index c.piece-item.result c.args.line.now c.loop-piece.rest.now c.in_ok-bytes.bytes.now c.in_ok-value.left.now c.loop-piece.values.items c.push_int.new.values.items c.in_ok-value.value
    c.loop-piece-test.true c.piece-item.is (c.in_ok-bytes.ensures ∙ ap (λ p. p ++ c.in_ok-bytes.bytes.now) c.as_slice.ensures) c.in_ok-value.ensures c.in_ok-push_int.ensures c.loop-piece.invariant

pub returns : goal.returns
returns c = all_read c.args.pieces.now c.loop-piece.piece-index c.args.line.now c.loop-piece.rest.now c.loop-piece.values.items (drop_all c.loop-piece.piece-index c.args.pieces.now c.loop-piece-test.false) c.loop-piece.invariant
