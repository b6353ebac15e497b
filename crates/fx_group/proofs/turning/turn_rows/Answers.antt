use Rattle.std.proofs.Common.{◌≡◌, [], ◌∷◌, sym, subst, rules}
use Rattle.std.specs.Prelude.{Ok, Err}
use Rattle.fx_value.specs.Calls.{Answers, heard}
use Rattle.fx_value.proofs.Calls.{same_patterns_on}
use Rattle.fx_group.specs.Answer.{Row, turned}
use Rattle.fx_group.specs.Turned.{with_rows, rows_turned}
use Rattle.fx_group.proofs.Gathering.{item_unstuck, item_done, item_stops}
use Rattle.fx_group.proofs.Patterns.{unstuck_still, answers_still}
use Rattle.fx_group.proofs.Steady.{steady_turned, steady_rows_turned}
use Rattle.fx_group.proofs.Turned.{with_both}
use Rattle.fx_group.proofs.turning.turn_rows.Goals as goal

pub turn-requires-clause-unstuck : goal.turn-requires-clause-unstuck
turn-requires-clause-unstuck g c =
    let says = heard (g.F.RowFun.numbers c.args.fun.now) (g.P.Patterns.test c.args.patterns.now) in
    let means = g.F.RowFun.means c.args.fun.now says in
    unstuck_still g.P.Patterns.built g.P.Patterns.refusals g.P.Patterns.test (g.F.RowFun.numbers c.args.fun.now)
    c.args.patterns.now c.loop-row.patterns c.loop-row.invariant.patterns c.requires.given
    (λ says n. turned (g.F.RowFun.means c.args.fun.now says) n c.in-Some.row)
    (item_unstuck {X = Row} with_rows with_both (λ n row. turned means n row) (λ row made. record { key = c.args.key.now; row = made } ∷ [])
    (rows_turned means c.args.runs c.args.key.now c.args.rows) c.loop-row.runs c.loop-row.row-iterator.rest.items c.args.meter.now c.loop-row.meter c.loop-row.invariant.goes
    c.in-Some.row c.next.new.self.rest.items c.in-Some.ensures.steps.0 (steady_turned means (g.met.F.RowFun.limited c.args.fun.now says) c.in-Some.row) c.requires.unstuck)

pub returns-in_err-made-clause-answer : goal.returns-in_err-made-clause-answer
returns-in_err-made-clause-answer g c =
    let says = heard (g.F.RowFun.numbers c.args.fun.now) (g.P.Patterns.test c.args.patterns.now) in
    let means = g.F.RowFun.means c.args.fun.now says in
    let same : c.from_residual.result ≡ Err c.in_err-made.field-0.0 = search rules in
    subst (Answers (rows_turned means c.args.runs c.args.key.now c.args.rows) c.args.meter.now c.turn.new.meter) (sym same)
    (item_stops {X = Row} with_rows with_both (λ n row. turned means n row) (λ row made. record { key = c.args.key.now; row = made } ∷ [])
    (rows_turned means c.args.runs c.args.key.now c.args.rows) c.loop-row.runs c.loop-row.row-iterator.rest.items c.args.meter.now c.loop-row.meter c.loop-row.invariant.goes
    c.in-Some.row c.next.new.self.rest.items c.in-Some.ensures.steps.0 c.turn.new.meter c.in_err-made.ensures.metered
    c.in_err-made.field-0.0 (steady_rows_turned means (g.met.F.RowFun.limited c.args.fun.now says) c.args.runs c.args.key.now c.args.rows)
    (answers_still g.P.Patterns.built g.P.Patterns.refusals g.P.Patterns.test (g.F.RowFun.numbers c.args.fun.now)
    c.args.patterns.now c.loop-row.patterns c.loop-row.invariant.patterns c.requires.given
    (λ says n. turned (g.F.RowFun.means c.args.fun.now says) n c.in-Some.row) c.loop-row.meter c.turn.new.meter (Err c.in_err-made.field-0.0) c.in_err-made.ensures.answer))

pub loop-row-preserved : goal.loop-row-preserved
loop-row-preserved g c =
    let says = heard (g.F.RowFun.numbers c.args.fun.now) (g.P.Patterns.test c.args.patterns.now) in
    let means = g.F.RowFun.means c.args.fun.now says in
    record {
      goes = item_done {X = Row} with_rows with_both (λ n row. turned means n row) (λ row made. record { key = c.args.key.now; row = made } ∷ [])
          (rows_turned means c.args.runs c.args.key.now c.args.rows) c.loop-row.runs c.loop-row.row-iterator.rest.items c.args.meter.now c.loop-row.meter c.loop-row.invariant.goes
          c.in-Some.row c.next.new.self.rest.items c.in-Some.ensures.steps.0 c.turn.new.meter c.in_ok-made.ensures.metered
          c.in_ok-made.made
          (answers_still g.P.Patterns.built g.P.Patterns.refusals g.P.Patterns.test (g.F.RowFun.numbers c.args.fun.now)
          c.args.patterns.now c.loop-row.patterns c.loop-row.invariant.patterns c.requires.given
          (λ says n. turned (g.F.RowFun.means c.args.fun.now says) n c.in-Some.row) c.loop-row.meter c.turn.new.meter (Ok c.in_ok-made.made) c.in_ok-made.ensures.answer)
          _ c.in_ok-runs.ensures;
      patterns = same_patterns_on g.P.Patterns.built g.P.Patterns.refusals g.P.Patterns.test c.args.patterns.now c.loop-row.patterns c.turn.new.patterns
          c.loop-row.invariant.patterns c.in_ok-made.ensures.patterns;
    }
