use Rattle.std.proofs.Common.{◌∙◌}
use Rattle.fx_schemes.specs.Names.{array_of, arrays}
use Rattle.fx_schemes.proofs.name.array_named.Goals as goal

pub returns : goal.returns
unfolding array_of arrays
returns c = c.copied.ensures ∙ rw c.in-Some.ensures.1 at c.find.ensures
