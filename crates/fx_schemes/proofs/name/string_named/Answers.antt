use Rattle.std.proofs.Common.{◌∙◌}
use Rattle.fx_schemes.specs.Names.{string_of, texts}
use Rattle.fx_schemes.proofs.name.string_named.Goals as goal

pub returns : goal.returns
unfolding string_of texts
returns c = c.copied.ensures ∙ rw c.in-Some.ensures.1 at c.find.ensures
