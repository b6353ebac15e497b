use Rattle.std.proofs.Common.{◌≡◌, sym, subst, ◌∙◌, rules}
use Rattle.std.specs.Prelude.{Ok, Err}
use Rattle.fx_value.specs.Calls.{Answers, heard}
use Rattle.fx_value.proofs.Calls.{same_patterns_on, same_patterns_none}
use Rattle.fx_value.proofs.Loops.{walk_ahead, goes_unstuck, goes_then, goes_stops}
use Rattle.fx_group.proofs.Patterns.{unstuck_still, answers_still}
use Rattle.fx_agg.specs.Reduce.{folded, reduced_rows}
use Rattle.fx_agg.proofs.Reduced.{steady_folded, steady_rows, rows_begin}
use Rattle.fx_agg.proofs.reducing.fold_rows.Goals as goal

pub loop-row-init : goal.loop-row-init
loop-row-init g c =
    let says = heard (g.F.RowFun.numbers c.args.fun.now) (g.P.Patterns.test c.args.patterns.now) in
    let means = g.F.RowFun.means c.args.fun.now says in
    record {
      goes = rows_begin means c.args.identity.now c.in_ok-accumulator.accumulator c.args.rows c.into_iter-row-iterator.result.rest.items c.args.meter.now
          c.requires.ready.spent c.in_ok-accumulator.ensures (c.into_iter-row-iterator.ensures.into_iter_gives.0 ∙ c.into_vec-row-items.ensures);
      patterns = same_patterns_none g.P.Patterns.built g.P.Patterns.refusals g.P.Patterns.test c.args.patterns.now;
    }

pub fold-requires-clause-unstuck : goal.fold-requires-clause-unstuck
fold-requires-clause-unstuck g c =
    let says = heard (g.F.RowFun.numbers c.args.fun.now) (g.P.Patterns.test c.args.patterns.now) in
    let means = g.F.RowFun.means c.args.fun.now says in
    let left = c.next.new.self.rest.items in
    unstuck_still g.P.Patterns.built g.P.Patterns.refusals g.P.Patterns.test (g.F.RowFun.numbers c.args.fun.now)
    c.args.patterns.now c.loop-row.patterns c.loop-row.invariant.patterns c.requires.given
    (λ says n. folded (g.F.RowFun.means c.args.fun.now says) n c.loop-row.accumulator c.in-Some.row)
    (goes_unstuck (reduced_rows means c.args.identity.now c.args.rows) (λ n. folded means n c.loop-row.accumulator c.in-Some.row)
    (λ next. reduced_rows means next left) c.args.meter.now c.loop-row.meter
    (walk_ahead (reduced_rows means c.args.identity.now c.args.rows) (folded means) c.loop-row.accumulator c.loop-row.row-iterator.rest.items c.in-Some.row left
    c.args.meter.now c.loop-row.meter c.in-Some.ensures.steps.0 c.loop-row.invariant.goes)
    (steady_folded means (g.met.F.RowFun.limited c.args.fun.now says) c.loop-row.accumulator c.in-Some.row) c.requires.unstuck)

pub returns-in_err-accumulator-2-clause-answer : goal.returns-in_err-accumulator-2-clause-answer
returns-in_err-accumulator-2-clause-answer g c =
    let says = heard (g.F.RowFun.numbers c.args.fun.now) (g.P.Patterns.test c.args.patterns.now) in
    let means = g.F.RowFun.means c.args.fun.now says in
    let left = c.next.new.self.rest.items in
    let why = c.in_err-accumulator-2.field-0.0 in
    let same : c.from_residual-in_err-accumulator-2.result ≡ Err c.in_err-accumulator-2.field-0.0 = search rules in
    subst (Answers (reduced_rows means c.args.identity.now c.args.rows) c.args.meter.now c.fold.new.meter) (sym same)
    (goes_stops (reduced_rows means c.args.identity.now c.args.rows) (λ n. folded means n c.loop-row.accumulator c.in-Some.row)
    (λ next. reduced_rows means next left) c.args.meter.now c.loop-row.meter
    (walk_ahead (reduced_rows means c.args.identity.now c.args.rows) (folded means) c.loop-row.accumulator c.loop-row.row-iterator.rest.items c.in-Some.row left
    c.args.meter.now c.loop-row.meter c.in-Some.ensures.steps.0 c.loop-row.invariant.goes)
    c.fold.new.meter c.in_err-accumulator-2.ensures.metered why (steady_rows means (g.met.F.RowFun.limited c.args.fun.now says) c.args.identity.now c.args.rows)
    (answers_still g.P.Patterns.built g.P.Patterns.refusals g.P.Patterns.test (g.F.RowFun.numbers c.args.fun.now)
    c.args.patterns.now c.loop-row.patterns c.loop-row.invariant.patterns c.requires.given
    (λ says n. folded (g.F.RowFun.means c.args.fun.now says) n c.loop-row.accumulator c.in-Some.row) c.loop-row.meter c.fold.new.meter (Err why) c.in_err-accumulator-2.ensures.answer))

pub loop-row-preserved : goal.loop-row-preserved
loop-row-preserved g c =
    let says = heard (g.F.RowFun.numbers c.args.fun.now) (g.P.Patterns.test c.args.patterns.now) in
    let means = g.F.RowFun.means c.args.fun.now says in
    let left = c.next.new.self.rest.items in
    record {
      goes = goes_then (reduced_rows means c.args.identity.now c.args.rows) (λ n. folded means n c.loop-row.accumulator c.in-Some.row)
          (λ next. reduced_rows means next left) c.args.meter.now c.loop-row.meter
          (walk_ahead (reduced_rows means c.args.identity.now c.args.rows) (folded means) c.loop-row.accumulator c.loop-row.row-iterator.rest.items c.in-Some.row left
          c.args.meter.now c.loop-row.meter c.in-Some.ensures.steps.0 c.loop-row.invariant.goes)
          c.fold.new.meter c.in_ok-accumulator-2.ensures.metered c.in_ok-accumulator-2.accumulator
          (answers_still g.P.Patterns.built g.P.Patterns.refusals g.P.Patterns.test (g.F.RowFun.numbers c.args.fun.now)
          c.args.patterns.now c.loop-row.patterns c.loop-row.invariant.patterns c.requires.given
          (λ says n. folded (g.F.RowFun.means c.args.fun.now says) n c.loop-row.accumulator c.in-Some.row) c.loop-row.meter c.fold.new.meter (Ok c.in_ok-accumulator-2.accumulator) c.in_ok-accumulator-2.ensures.answer);
      patterns = same_patterns_on g.P.Patterns.built g.P.Patterns.refusals g.P.Patterns.test c.args.patterns.now c.loop-row.patterns c.fold.new.patterns
          c.loop-row.invariant.patterns c.in_ok-accumulator-2.ensures.patterns;
    }
