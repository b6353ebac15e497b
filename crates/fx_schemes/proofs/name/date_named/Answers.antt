use Rattle.std.proofs.Common.{◌∙◌}
use Rattle.fx_schemes.specs.Names.{date_of, dates}
use Rattle.fx_schemes.proofs.name.date_named.Goals as goal

pub returns : goal.returns
unfolding date_of dates
returns c = c.copied.ensures ∙ rw c.in-Some.ensures.1 at c.find.ensures
