use Rattle.std.proofs.Common.{◌≡◌, length, subst, sym, ap, ◌∙◌}
use Rattle.std.specs.Prelude.{◌&&◌}
use Rattle.std.specs.Result.{IfOk}
use Rattle.fx_values.proofs.KnownLaws.{heard_if, known_below}
use Rattle.fx_values.proofs.matching.is_heard.Goals as goal

pub returns-then-not-is_known-clause-answer : goal.returns-then-not-is_known-clause-answer
returns-then-not-is_known-clause-answer g c =
    let test = g.P.Patterns.test c.args.patterns.now in
    sym (heard_if test c.args.number c.args.text.now c.args.known.now c.is_known.result c.is_known.ensures
    ∙ ap (λ b. b && test c.args.number c.args.text.now) c.if-not-is_known.true)

pub matches-requires : goal.matches-requires
matches-requires g c =
    known_below (length (g.P.Patterns.built c.args.patterns.now)) c.args.number c.args.known.now c.requires.given (sym c.is_known.ensures ∙ c.if-not-is_known.false)

pub returns-clause-answer : goal.returns-clause-answer
returns-clause-answer g c =
    let test = g.P.Patterns.test c.args.patterns.now in
    subst (λ x. IfOk c.matches.result (λ b. b ≡ x))
    (sym (heard_if test c.args.number c.args.text.now c.args.known.now c.is_known.result c.is_known.ensures
    ∙ ap (λ b. b && test c.args.number c.args.text.now) c.if-not-is_known.false))
    c.matches.ensures.answer
