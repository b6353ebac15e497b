use Rattle.std.proofs.Common.{◌≡◌, drop}
use Rattle.fx_top.specs.Words.{says, with_more}
use Rattle.fx_top.specs.declared.words.Reading.TheVariants as reading
use Rattle.fx_top.proofs.words.read_said.Given as goal

abbrev pub invariant-loop-word : goal.invariant-loop-word
invariant-loop-word l = says reading.Open l.words ≡ with_more l.said (says l.reading (drop l.word-index l.words))
