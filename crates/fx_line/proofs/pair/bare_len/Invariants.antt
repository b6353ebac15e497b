use Rattle.std.proofs.Common.{◌≡◌, ◌+◌, length}
use Rattle.fx_line.specs.Reading.{bare_len}
use Rattle.fx_line.proofs.pair.bare_len.Given as goal

abbrev pub invariant-loop-rest : goal.invariant-loop-rest
invariant-loop-rest l = record {
  small : l.len + length l.rest ≡ length l.bytes;
  so_far : l.len + bare_len l.rest ≡ bare_len l.bytes;
}

abbrev pub decreases-loop-rest : goal.decreases-loop-rest
decreases-loop-rest l = length l.rest
