use Rattle.std.proofs.Common.{length, sym, ◌∙◌, arith}
use Rattle.fx_scan.proofs.SpanLemmas.{turn_ends, turn_goes, turns_over}
use Rattle.fx_scan.proofs.spans.span_len.Goals as goal

pub returns-in-None : goal.returns-in-None
returns-in-None c =
    turn_ends (length c.args.s.now) c.loop-turn._turn c.loop-turn.span c.args.s.now _ (omega arith) (sym c.longer.ensures.value ∙ c.in-None.is) c.loop-turn.invariant.same

pub loop-turn-preserved : goal.loop-turn-preserved
loop-turn-preserved c = record {
  same = turn_goes (length c.args.s.now) c.loop-turn._turn c.loop-turn.span c.in-Some.more c.args.s.now _ (omega arith) (sym c.longer.ensures.value ∙ c.in-Some.is) c.loop-turn.invariant.same;
  months = c.in-Some.ensures.months_after;
  nanos = c.in-Some.ensures.nanos_after;
  within = c.in-Some.ensures.within_after;
}

pub returns : goal.returns
returns c = turns_over (length c.args.s.now) c.loop-turn._turn c.loop-turn.span c.args.s.now _ (omega arith) c.loop-turn.invariant.same
