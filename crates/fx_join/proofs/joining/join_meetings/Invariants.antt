use Rattle.std.specs.List.{AllByRecursion}
use Rattle.fx_data.specs.Table.{HasRisingLabels}
use Rattle.fx_value.specs.Calls.{heard, SamePatterns}
use Rattle.fx_value.proofs.Loops.{Goes}
use Rattle.fx_join.specs.Joined.{with_meetings}
use Rattle.fx_join.specs.declared.meeting.Meeting.{Meeting}
use Rattle.fx_join.proofs.joining.join_meetings.Given as goal

abbrev pub invariant-loop-meeting : goal.invariant-loop-meeting
invariant-loop-meeting g l = record {
  goes : Goes
      (with_meetings (g.F.RowFun.means l.on (heard (g.F.RowFun.numbers l.on) (g.P.Patterns.test l.initial.patterns)))
      (g.G.RowFun.means l.both (heard (g.G.RowFun.numbers l.both) (g.P.Patterns.test l.initial.patterns))) l.side l.fn.runs l.fn.meetings)
      (with_meetings (g.F.RowFun.means l.on (heard (g.F.RowFun.numbers l.on) (g.P.Patterns.test l.initial.patterns)))
      (g.G.RowFun.means l.both (heard (g.G.RowFun.numbers l.both) (g.P.Patterns.test l.initial.patterns))) l.side l.runs l.meeting-iterator.rest.items)
      l.initial.meter l.meter;
  patterns : SamePatterns g.P.Patterns.built g.P.Patterns.refusals g.P.Patterns.test l.initial.patterns l.patterns;
  rising : AllByRecursion (λ (m : Meeting). HasRisingLabels m.key) l.meeting-iterator.rest.items;
}
