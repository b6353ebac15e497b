use Rattle.fx_top.specs.Words.{says}
use Rattle.fx_top.specs.declared.words.Reading.TheVariants as reading
use Rattle.fx_top.proofs.WordLemmas.{says_on}
use Rattle.fx_top.proofs.words.read_said.Goals as goal

pub loop-word-preserved : goal.loop-word-preserved
loop-word-preserved c =
    says_on c.args.words.now c.loop-word.word-index c.word-item.result c.loop-word.reading c.in-Some.next c.loop-word.said c.hear.new.said (says reading.Open c.args.words.now) c.loop-word-test.true c.word-item.is
    (rw c.in-Some.is at c.in_ok-hear.ensures) c.loop-word.invariant
