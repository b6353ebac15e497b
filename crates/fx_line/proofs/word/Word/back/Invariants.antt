use Rattle.std.proofs.Common.{◌≡◌, length, false}
use Rattle.fx_line.specs.Word.{back}
use Rattle.fx_line.proofs.word.Word.back.Given as goal

abbrev pub invariant-loop-rest : goal.invariant-loop-rest
invariant-loop-rest l = back l.self l.behind l.rest ≡ back l.self false l.bytes

abbrev pub decreases-loop-rest : goal.decreases-loop-rest
decreases-loop-rest l = length l.rest
