use Rattle.std.proofs.Common.{◌≡◌, List, sym, subst, rules}
use Rattle.std.specs.Prelude.{Err}
use Rattle.fx_data.specs.declared.table.Table.{Table}
use Rattle.fx_value.specs.Calls.{Answers, Ended, heard}
use Rattle.fx_value.specs.Ends.{Gives}
use Rattle.fx_join.specs.Joined.{joined}
use Rattle.fx_join.specs.Meet.{meetings}
use Rattle.fx_join.proofs.Joins.{join_unstuck, join_gives, join_stops}
use Rattle.fx_join.proofs.SteadyJoins.{steady_all, steady_meetings}
use Rattle.fx_join.proofs.joining.join_nested.Goals as goal

pub join_meetings-requires-clause-unstuck : goal.join_meetings-requires-clause-unstuck
join_meetings-requires-clause-unstuck g c =
    let on_says = heard (g.F.RowFun.numbers c.args.on.now) (g.P.Patterns.test c.args.patterns.now) in
    let says = heard (g.G.RowFun.numbers c.args.both.now) (g.P.Patterns.test c.args.patterns.now) in
    let on = g.F.RowFun.means c.args.on.now on_says in
    let both = g.G.RowFun.means c.args.both.now says in
    let ms = c.in_ok-meetings.meetings in
    join_unstuck on both c.args.side c.args.left c.args.right ms c.empty.result c.in_ok-meetings.ensures.meetings c.empty.ensures c.args.meter.now c.requires.ready.spent
    (steady_meetings on (g.met.F.RowFun.limited c.args.on.now on_says) both (g.met.G.RowFun.limited c.args.both.now says) c.args.side c.empty.result ms) c.requires.unstuck

pub returns-in_err-runs-clause-answer : goal.returns-in_err-runs-clause-answer
returns-in_err-runs-clause-answer g c =
    let on_says = heard (g.F.RowFun.numbers c.args.on.now) (g.P.Patterns.test c.args.patterns.now) in
    let says = heard (g.G.RowFun.numbers c.args.both.now) (g.P.Patterns.test c.args.patterns.now) in
    let on = g.F.RowFun.means c.args.on.now on_says in
    let both = g.G.RowFun.means c.args.both.now says in
    let ms = c.in_ok-meetings.meetings in
    let same : c.from_residual-in_err-runs.result ≡ Err c.in_err-runs.field-0.0 = search rules in
    subst (Answers (joined on both c.args.side c.args.left c.args.right) c.args.meter.now c.join_meetings.new.meter) (sym same)
    (join_stops on both c.args.side c.args.left c.args.right ms c.empty.result c.in_ok-meetings.ensures.meetings c.empty.ensures c.args.meter.now c.requires.ready.spent
    c.join_meetings.new.meter c.in_err-runs.ensures.metered c.in_err-runs.field-0.0
    (steady_all on (g.met.F.RowFun.limited c.args.on.now on_says) both (g.met.G.RowFun.limited c.args.both.now says) c.args.side (meetings c.args.left c.args.right)) c.in_err-runs.ensures.answer)

pub returns-clause-answer : goal.returns-clause-answer
returns-clause-answer g c =
    let on_says = heard (g.F.RowFun.numbers c.args.on.now) (g.P.Patterns.test c.args.patterns.now) in
    let says = heard (g.G.RowFun.numbers c.args.both.now) (g.P.Patterns.test c.args.patterns.now) in
    let on = g.F.RowFun.means c.args.on.now on_says in
    let both = g.G.RowFun.means c.args.both.now says in
    let ms = c.in_ok-meetings.meetings in
    subst (λ (ts : List Table). Ended (joined on both c.args.side c.args.left c.args.right) (Gives ts) c.args.meter.now c.join_meetings.new.meter) (sym c.in_ok-made.ensures)
    (join_gives on both c.args.side c.args.left c.args.right ms c.empty.result c.in_ok-meetings.ensures.meetings c.empty.ensures c.args.meter.now c.requires.ready.spent
    c.join_meetings.new.meter c.in_ok-runs.ensures.metered c.in_ok-runs.runs c.in_ok-runs.ensures.answer)
