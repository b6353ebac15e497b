use Rattle.std.proofs.Common.{ℕ, length}
use Rattle.fx_scan.specs.Forms.{IsSpan}
use Rattle.fx_parse.proofs.tokens.SpanLemmas.{IsAhead}
use Rattle.fx_parse.proofs.span.span_of.Given as goal

abbrev pub invariant-loop-rest : goal.invariant-loop-rest
invariant-loop-rest l = (months nanos : ℕ) → IsSpan l.fn.text months nanos → IsAhead months nanos l.months l.nanos l.rest

abbrev pub decreases-loop-rest : goal.decreases-loop-rest
decreases-loop-rest l = length l.rest
