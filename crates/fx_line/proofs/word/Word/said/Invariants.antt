use Rattle.std.proofs.Common.{◌≡◌, ◌++◌, length, false}
use Rattle.fx_line.specs.Word.{said}
use Rattle.fx_line.proofs.word.Word.said.Given as goal

abbrev pub invariant-loop-rest : goal.invariant-loop-rest
invariant-loop-rest l = l.out.items ++ said l.self l.plain l.rest ≡ said l.self false l.bytes

abbrev pub decreases-loop-rest : goal.decreases-loop-rest
decreases-loop-rest l = length l.rest
