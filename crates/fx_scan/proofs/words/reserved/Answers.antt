use Rattle.std.proofs.Common.{◌∙◌}
use Rattle.fx_scan.specs.Tables.{word_of, words}
use Rattle.fx_scan.proofs.words.reserved.Goals as goal

pub returns : goal.returns
unfolding word_of words
returns c = c.copied.ensures ∙ rw c.in-Some.ensures.1 at c.find.ensures
