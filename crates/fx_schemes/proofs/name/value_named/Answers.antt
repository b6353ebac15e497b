use Rattle.std.proofs.Common.{◌∙◌}
use Rattle.fx_schemes.specs.Names.{value_of, values}
use Rattle.fx_schemes.proofs.name.value_named.Goals as goal

pub returns : goal.returns
unfolding value_of values
returns c = c.copied.ensures ∙ rw c.in-Some.ensures.1 at c.find.ensures
