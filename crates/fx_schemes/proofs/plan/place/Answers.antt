use Rattle.std.proofs.Common.{sym, ap, ◌∙◌}
use Rattle.fx_schemes.specs.Plan.{place_of}
use Rattle.fx_schemes.proofs.plan.place.Goals as goal

pub returns-in-Label : goal.returns-in-Label
returns-in-Label c = ap (place_of c.args.given.now) (sym c.in-Label.is)

pub returns-in-Given : goal.returns-in-Given
returns-in-Given c = c.text_at.ensures ∙ ap (place_of c.args.given.now) (sym c.in-Given.is)

pub returns-in-Word : goal.returns-in-Word
returns-in-Word c = c.text_at-in-Word.ensures ∙ ap (place_of c.args.given.now) (sym c.in-Word.is)
