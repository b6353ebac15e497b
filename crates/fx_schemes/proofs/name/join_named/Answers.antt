use Rattle.std.proofs.Common.{◌∙◌}
use Rattle.fx_schemes.specs.Names.{join_of, joins}
use Rattle.fx_schemes.proofs.name.join_named.Goals as goal

pub returns : goal.returns
unfolding join_of joins
returns c = c.copied.ensures ∙ rw c.in-Some.ensures.1 at c.find.ensures
