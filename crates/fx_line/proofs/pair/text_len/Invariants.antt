use Rattle.std.proofs.Common.{◌≡◌, ◌+◌, length, false}
use Rattle.fx_line.specs.Reading.{text_len}
use Rattle.fx_line.proofs.pair.text_len.Given as goal

abbrev pub invariant-loop-rest : goal.invariant-loop-rest
invariant-loop-rest l = record {
  small : l.len + length l.rest ≡ length l.bytes;
  so_far : l.len + text_len l.behind l.rest ≡ text_len false l.bytes;
}

abbrev pub decreases-loop-rest : goal.decreases-loop-rest
decreases-loop-rest l = length l.rest
