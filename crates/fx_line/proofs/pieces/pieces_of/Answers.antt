use Rattle.std.proofs.Common.{◌≡◌, length, subst, sym, ◌∙◌, ap, arith, IfSome}
use Rattle.fx_line.specs.Pieces.{head_text, pieces_from}
use Rattle.fx_line.specs.Line.{IsSpelled, trimmed}
use Rattle.fx_line.proofs.PieceLaw.{pieces_law}
use Rattle.fx_line.proofs.pieces.pieces_of.Goals as goal

pub returns : goal.returns
returns c = λ mode given.
    let fields = ap (λ w. w.fields) c.parts.view_is in
    pieces_law c.args.line.now c.in-Some.parts c.args.points.now c.in_ok-texts.texts
    (subst (λ l. IsSpelled l c.in-Some.parts) c.trimmed.ensures (subst (λ o. IfSome o (λ w. IsSpelled c.trimmed.result.now w)) c.in-Some.is c.in_ok-parts.ensures.found))
    (omega (arith, ap length fields))
    (c.in_ok-texts.ensures ∙ (λ i. pieces_from (c.in_ok-head.ensures i) ((c.as_slice.ensures.value ∙ fields) i)))
    mode given
