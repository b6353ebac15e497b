use Rattle.std.proofs.Common.{◌≡◌, ◌≤◌, ◌-◌, length}
use Rattle.fx_scan.specs.Forms.{greatest}
use Rattle.fx_scan.specs.Readers.{span_len, longest}
use Rattle.fx_scan.proofs.spans.span_len.Given as goal

abbrev pub invariant-loop-turn : goal.invariant-loop-turn
invariant-loop-turn l = record {
  same : span_len l.fn.s ≡ longest (l._turn-end - l._turn) l.span l.fn.s;
  months : l.span.months ≤ greatest;
  nanos : l.span.nanos ≤ greatest;
  within : l.span.len ≤ length l.fn.s;
}
