use Rattle.std.proofs.Common.{◌∙◌}
use Rattle.fx_schemes.specs.Names.{stream_of, streams}
use Rattle.fx_schemes.proofs.name.stream_named.Goals as goal

pub returns : goal.returns
unfolding stream_of streams
returns c = c.copied.ensures ∙ rw c.in-Some.ensures.1 at c.find.ensures
