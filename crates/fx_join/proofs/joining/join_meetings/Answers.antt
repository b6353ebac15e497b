use Rattle.std.proofs.Common.{◌≡◌, ◌∷◌, sym, subst, rules}
use Rattle.std.specs.List.{AllByRecursion}
use Rattle.std.specs.Prelude.{Ok, Err}
use Rattle.fx_data.specs.Table.{HasRisingLabels}
use Rattle.fx_value.specs.Calls.{Answers, heard}
use Rattle.fx_value.specs.Works.{into}
use Rattle.fx_value.proofs.Calls.{same_patterns_on}
use Rattle.fx_value.proofs.Loops.{state_ahead, goes_unstuck, goes_then, goes_stops}
use Rattle.fx_group.specs.Turned.{with_rows}
use Rattle.fx_group.proofs.Turned.{with_both}
use Rattle.fx_join.specs.Joined.{met_rows, with_meetings}
use Rattle.fx_join.specs.declared.meeting.Meeting.{Meeting}
use Rattle.fx_join.proofs.Both.{unstuck_both, answers_both}
use Rattle.fx_join.proofs.SteadyJoins.{steady_meeting, steady_meetings}
use Rattle.fx_join.proofs.joining.join_meetings.Goals as goal

pub join_meeting-requires-clause-rising : goal.join_meeting-requires-clause-rising
join_meeting-requires-clause-rising g c =
    let before : AllByRecursion (λ (m : Meeting). HasRisingLabels m.key) (c.in-Some.meeting ∷ c.next.new.self.rest.items)
    = subst (AllByRecursion (λ (m : Meeting). HasRisingLabels m.key)) c.in-Some.ensures.steps.0 c.loop-meeting.invariant.rising in
    before.0

pub join_meeting-requires-clause-unstuck : goal.join_meeting-requires-clause-unstuck
join_meeting-requires-clause-unstuck g c =
    let on_says = heard (g.F.RowFun.numbers c.args.on.now) (g.P.Patterns.test c.args.patterns.now) in
    let says = heard (g.G.RowFun.numbers c.args.both.now) (g.P.Patterns.test c.args.patterns.now) in
    let on = g.F.RowFun.means c.args.on.now on_says in
    let both = g.G.RowFun.means c.args.both.now says in
    let side = c.args.side in
    let m = c.in-Some.meeting in
    let runs = c.loop-meeting.runs in
    let whole = with_meetings on both side c.args.runs c.args.meetings in
    unstuck_both g.P.Patterns.built g.P.Patterns.refusals g.P.Patterns.test (g.F.RowFun.numbers c.args.on.now) (g.G.RowFun.numbers c.args.both.now)
    c.args.patterns.now c.loop-meeting.patterns c.loop-meeting.invariant.patterns c.requires.on_given c.requires.both_given
    (λ ons boths n. into with_rows runs (met_rows (g.F.RowFun.means c.args.on.now ons) (g.G.RowFun.means c.args.both.now boths) side n m))
    (goes_unstuck whole (λ n. into with_rows runs (met_rows on both side n m)) (λ groups. with_meetings on both side groups c.next.new.self.rest.items) c.args.meter.now c.loop-meeting.meter
    (state_ahead with_rows with_both whole (met_rows on both side) runs c.loop-meeting.meeting-iterator.rest.items
    c.args.meter.now c.loop-meeting.meter c.loop-meeting.invariant.goes m c.next.new.self.rest.items c.in-Some.ensures.steps.0)
    (steady_meeting on (g.met.F.RowFun.limited c.args.on.now on_says) both (g.met.G.RowFun.limited c.args.both.now says) side runs m) c.requires.unstuck)

pub returns-in_err-runs-clause-answer : goal.returns-in_err-runs-clause-answer
returns-in_err-runs-clause-answer g c =
    let on_says = heard (g.F.RowFun.numbers c.args.on.now) (g.P.Patterns.test c.args.patterns.now) in
    let says = heard (g.G.RowFun.numbers c.args.both.now) (g.P.Patterns.test c.args.patterns.now) in
    let on = g.F.RowFun.means c.args.on.now on_says in
    let both = g.G.RowFun.means c.args.both.now says in
    let side = c.args.side in
    let m = c.in-Some.meeting in
    let runs = c.loop-meeting.runs in
    let whole = with_meetings on both side c.args.runs c.args.meetings in
    let why = c.in_err-runs.field-0.0 in
    let same : c.from_residual.result ≡ Err c.in_err-runs.field-0.0 = search rules in
    subst (Answers whole c.args.meter.now c.join_meeting.new.meter) (sym same)
    (goes_stops whole (λ n. into with_rows runs (met_rows on both side n m)) (λ groups. with_meetings on both side groups c.next.new.self.rest.items) c.args.meter.now c.loop-meeting.meter
    (state_ahead with_rows with_both whole (met_rows on both side) runs c.loop-meeting.meeting-iterator.rest.items
    c.args.meter.now c.loop-meeting.meter c.loop-meeting.invariant.goes m c.next.new.self.rest.items c.in-Some.ensures.steps.0)
    c.join_meeting.new.meter c.in_err-runs.ensures.metered why
    (steady_meetings on (g.met.F.RowFun.limited c.args.on.now on_says) both (g.met.G.RowFun.limited c.args.both.now says) side c.args.runs c.args.meetings)
    (answers_both g.P.Patterns.built g.P.Patterns.refusals g.P.Patterns.test (g.F.RowFun.numbers c.args.on.now) (g.G.RowFun.numbers c.args.both.now)
    c.args.patterns.now c.loop-meeting.patterns c.loop-meeting.invariant.patterns c.requires.on_given c.requires.both_given
    (λ ons boths n. into with_rows runs (met_rows (g.F.RowFun.means c.args.on.now ons) (g.G.RowFun.means c.args.both.now boths) side n m))
    c.loop-meeting.meter c.join_meeting.new.meter (Err why) c.in_err-runs.ensures.answer))

pub loop-meeting-preserved : goal.loop-meeting-preserved
loop-meeting-preserved g c =
    let on_says = heard (g.F.RowFun.numbers c.args.on.now) (g.P.Patterns.test c.args.patterns.now) in
    let says = heard (g.G.RowFun.numbers c.args.both.now) (g.P.Patterns.test c.args.patterns.now) in
    let on = g.F.RowFun.means c.args.on.now on_says in
    let both = g.G.RowFun.means c.args.both.now says in
    let side = c.args.side in
    let m = c.in-Some.meeting in
    let runs = c.loop-meeting.runs in
    let whole = with_meetings on both side c.args.runs c.args.meetings in
    let before : AllByRecursion (λ (m : Meeting). HasRisingLabels m.key) (m ∷ c.next.new.self.rest.items)
    = subst (AllByRecursion (λ (m : Meeting). HasRisingLabels m.key)) c.in-Some.ensures.steps.0 c.loop-meeting.invariant.rising in
    record {
      goes = goes_then whole (λ n. into with_rows runs (met_rows on both side n m)) (λ groups. with_meetings on both side groups c.next.new.self.rest.items) c.args.meter.now c.loop-meeting.meter
          (state_ahead with_rows with_both whole (met_rows on both side) runs c.loop-meeting.meeting-iterator.rest.items
          c.args.meter.now c.loop-meeting.meter c.loop-meeting.invariant.goes m c.next.new.self.rest.items c.in-Some.ensures.steps.0)
          c.join_meeting.new.meter c.in_ok-runs.ensures.metered c.in_ok-runs.runs
          (answers_both g.P.Patterns.built g.P.Patterns.refusals g.P.Patterns.test (g.F.RowFun.numbers c.args.on.now) (g.G.RowFun.numbers c.args.both.now)
          c.args.patterns.now c.loop-meeting.patterns c.loop-meeting.invariant.patterns c.requires.on_given c.requires.both_given
          (λ ons boths n. into with_rows runs (met_rows (g.F.RowFun.means c.args.on.now ons) (g.G.RowFun.means c.args.both.now boths) side n m))
          c.loop-meeting.meter c.join_meeting.new.meter (Ok c.in_ok-runs.runs) c.in_ok-runs.ensures.answer);
      patterns = same_patterns_on g.P.Patterns.built g.P.Patterns.refusals g.P.Patterns.test c.args.patterns.now c.loop-meeting.patterns c.join_meeting.new.patterns
          c.loop-meeting.invariant.patterns c.in_ok-runs.ensures.patterns;
      rising = before.1;
    }
