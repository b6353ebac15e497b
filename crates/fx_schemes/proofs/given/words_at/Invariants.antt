use Rattle.std.proofs.Common.{◌≡◌, drop}
use Rattle.fx_schemes.specs.Given.{words_at}
use Rattle.fx_schemes.proofs.given.words_at.Given as goal

abbrev pub invariant-loop-entry : goal.invariant-loop-entry
invariant-loop-entry l = words_at l.given l.label ≡ words_at (drop l.entry-index l.entry-items) l.label
