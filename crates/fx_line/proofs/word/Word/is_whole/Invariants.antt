use Rattle.std.proofs.Common.{◌≡◌, length, false}
use Rattle.fx_line.specs.Word.{is_whole}
use Rattle.fx_line.proofs.word.Word.is_whole.Given as goal

abbrev pub invariant-loop-rest : goal.invariant-loop-rest
invariant-loop-rest l = is_whole l.self l.behind l.rest ≡ is_whole l.self false l.bytes

abbrev pub decreases-loop-rest : goal.decreases-loop-rest
decreases-loop-rest l = length l.rest
