use Rattle.std.proofs.Common.{◌∙◌}
use Rattle.fx_schemes.specs.Names.{series_of, sources}
use Rattle.fx_schemes.proofs.name.series_named.Goals as goal

pub returns : goal.returns
unfolding series_of sources
returns c = c.copied.ensures ∙ rw c.in-Some.ensures.1 at c.find.ensures
