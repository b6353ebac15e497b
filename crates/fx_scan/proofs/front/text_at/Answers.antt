use Rattle.std.proofs.Common.{refl, sym, ap, subst, ◌∙◌}
use Rattle.fx_scan.specs.declared.enclosed.Open.TheVariants as inside
use Rattle.fx_scan.specs.Readers.{IsFound, end_of, piece_kind}
use Rattle.fx_scan.proofs.PieceLemmas.{no_end, no_piece, piece_taken}
use Rattle.fx_scan.proofs.front.text_at.Goals as goal

pub returns-in_err-end : goal.returns-in_err-end
returns-in_err-end c =
    subst (IsFound c.args.mode c.args.s.now) (sym c.from_residual.ensures)
    (no_end c.args.mode c.args.s.now c.requires (ap (λ x. end_of x inside.Text 0) (sym c.past.ensures) ∙ sym c.end_of.ensures.value ∙ c.in_err-end.was))

pub returns-in_err-kind : goal.returns-in_err-kind
returns-in_err-kind c =
    subst (IsFound c.args.mode c.args.s.now) (sym c.from_residual-in_err-kind.ensures)
    (no_piece c.args.mode c.args.s.now c.in_ok-end.end c.requires (ap (λ x. end_of x inside.Text 0) (sym c.past.ensures) ∙ sym c.end_of.ensures.value ∙ c.in_ok-end.was)
    (ap (λ q. piece_kind c.args.mode q c.in_ok-end.end.opens) (sym c.begins_byte.ensures) ∙ sym c.piece_kind.ensures ∙ c.in_err-kind.was))

pub returns : goal.returns
returns c =
    piece_taken c.args.mode c.args.s.now c.in_ok-end.end c.in_ok-kind.kind _ c.requires
    (ap (λ x. end_of x inside.Text 0) (sym c.past.ensures) ∙ sym c.end_of.ensures.value ∙ c.in_ok-end.was)
    (ap (λ q. piece_kind c.args.mode q c.in_ok-end.end.opens) (sym c.begins_byte.ensures) ∙ sym c.piece_kind.ensures ∙ c.in_ok-kind.was) refl
