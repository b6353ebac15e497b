use Rattle.std.proofs.Common.{refl, sym, ap, subst, ◌∙◌}
use Rattle.fx_scan.specs.declared.enclosed.Open.TheVariants as inside
use Rattle.fx_scan.specs.Forms.{begins, is_slash}
use Rattle.fx_scan.specs.Readers.{IsFound, end_of}
use Rattle.fx_scan.proofs.PieceLemmas.{empty_pattern, open_pattern, pattern_taken}
use Rattle.fx_scan.proofs.front.pattern_at.Goals as goal

pub returns-then-begins_slash : goal.returns-then-begins_slash
returns-then-begins_slash c =
    empty_pattern c.args.mode c.args.s.now c.requires (ap (begins is_slash) (sym c.past-rest.ensures) ∙ sym c.begins_slash.ensures ∙ c.if-begins_slash.true)

pub returns-in_err-end : goal.returns-in_err-end
returns-in_err-end c =
    subst (IsFound c.args.mode c.args.s.now) (sym c.from_residual.ensures)
    (open_pattern c.args.mode c.args.s.now c.requires (ap (λ x. end_of x inside.Pattern 0) (sym c.past-rest.ensures) ∙ sym c.end_of.ensures.value ∙ c.in_err-end.was))

pub returns : goal.returns
returns c =
    pattern_taken c.args.mode c.args.s.now c.in_ok-end.end _ c.requires
    (ap (begins is_slash) (sym c.past-rest.ensures) ∙ sym c.begins_slash.ensures ∙ c.if-begins_slash.false)
    (ap (λ x. end_of x inside.Pattern 0) (sym c.past-rest.ensures) ∙ sym c.end_of.ensures.value ∙ c.in_ok-end.was) refl
