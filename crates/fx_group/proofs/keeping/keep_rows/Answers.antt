use Rattle.std.proofs.Common.{◌≡◌, [], ◌∷◌, ◌++◌, sym, subst, append_assoc, rules}
use Rattle.std.specs.Prelude.{Ok, Err, if◌then◌else◌}
use Rattle.fx_value.specs.Calls.{Answers, heard}
use Rattle.fx_value.proofs.Calls.{same_patterns_on}
use Rattle.fx_group.specs.Answer.{Row, tested}
use Rattle.fx_group.specs.Filter.{kept_rows}
use Rattle.fx_group.proofs.Gathering.{item_unstuck, item_done, item_stops}
use Rattle.fx_group.proofs.Patterns.{unstuck_still, answers_still}
use Rattle.fx_group.proofs.Steady.{steady_tested, steady_kept_rows}
use Rattle.fx_group.proofs.keeping.keep_rows.Goals as goal

pub test-requires-clause-unstuck : goal.test-requires-clause-unstuck
test-requires-clause-unstuck g c =
    let says = heard (g.F.RowFun.numbers c.args.fun.now) (g.P.Patterns.test c.args.patterns.now) in
    let means = g.F.RowFun.means c.args.fun.now says in
    unstuck_still g.P.Patterns.built g.P.Patterns.refusals g.P.Patterns.test (g.F.RowFun.numbers c.args.fun.now)
    c.args.patterns.now c.loop-row.patterns c.loop-row.invariant.patterns c.requires.given
    (λ says n. tested (g.F.RowFun.means c.args.fun.now says) n c.in-Some.row)
    (item_unstuck {X = Row} ◌++◌ (λ xs ys zs. sym (append_assoc xs ys zs)) (λ n row. tested means n row) (λ row wanted. if wanted then row ∷ [] else [])
    (kept_rows means c.args.rows) c.loop-row.kept.items c.loop-row.row-iterator.rest.items c.args.meter.now c.loop-row.meter c.loop-row.invariant.goes
    c.in-Some.row c.next.new.self.rest.items c.in-Some.ensures.steps.0 (steady_tested means (g.met.F.RowFun.limited c.args.fun.now says) c.in-Some.row) c.requires.unstuck)

pub returns-in_err-wanted-clause-answer : goal.returns-in_err-wanted-clause-answer
returns-in_err-wanted-clause-answer g c =
    let says = heard (g.F.RowFun.numbers c.args.fun.now) (g.P.Patterns.test c.args.patterns.now) in
    let means = g.F.RowFun.means c.args.fun.now says in
    let same : c.from_residual.result ≡ Err c.in_err-wanted.field-0.0 = search rules in
    subst (Answers (kept_rows means c.args.rows) c.args.meter.now c.test.new.meter) (sym same)
    (item_stops {X = Row} ◌++◌ (λ xs ys zs. sym (append_assoc xs ys zs)) (λ n row. tested means n row) (λ row wanted. if wanted then row ∷ [] else [])
    (kept_rows means c.args.rows) c.loop-row.kept.items c.loop-row.row-iterator.rest.items c.args.meter.now c.loop-row.meter c.loop-row.invariant.goes
    c.in-Some.row c.next.new.self.rest.items c.in-Some.ensures.steps.0 c.test.new.meter c.in_err-wanted.ensures.metered
    c.in_err-wanted.field-0.0 (steady_kept_rows means (g.met.F.RowFun.limited c.args.fun.now says) c.args.rows)
    (answers_still g.P.Patterns.built g.P.Patterns.refusals g.P.Patterns.test (g.F.RowFun.numbers c.args.fun.now)
    c.args.patterns.now c.loop-row.patterns c.loop-row.invariant.patterns c.requires.given
    (λ says n. tested (g.F.RowFun.means c.args.fun.now says) n c.in-Some.row) c.loop-row.meter c.test.new.meter (Err c.in_err-wanted.field-0.0) c.in_err-wanted.ensures.answer))

pub loop-row-preserved : goal.loop-row-preserved
loop-row-preserved g c =
    let says = heard (g.F.RowFun.numbers c.args.fun.now) (g.P.Patterns.test c.args.patterns.now) in
    let means = g.F.RowFun.means c.args.fun.now says in
    record {
      goes = item_done {X = Row} ◌++◌ (λ xs ys zs. sym (append_assoc xs ys zs)) (λ n row. tested means n row) (λ row wanted. if wanted then row ∷ [] else [])
          (kept_rows means c.args.rows) c.loop-row.kept.items c.loop-row.row-iterator.rest.items c.args.meter.now c.loop-row.meter c.loop-row.invariant.goes
          c.in-Some.row c.next.new.self.rest.items c.in-Some.ensures.steps.0 c.test.new.meter c.in_ok-wanted.ensures.metered
          c.in_ok-wanted.wanted
          (answers_still g.P.Patterns.built g.P.Patterns.refusals g.P.Patterns.test (g.F.RowFun.numbers c.args.fun.now)
          c.args.patterns.now c.loop-row.patterns c.loop-row.invariant.patterns c.requires.given
          (λ says n. tested (g.F.RowFun.means c.args.fun.now says) n c.in-Some.row) c.loop-row.meter c.test.new.meter (Ok c.in_ok-wanted.wanted) c.in_ok-wanted.ensures.answer)
          _ c.in_ok-push_if.ensures;
      patterns = same_patterns_on g.P.Patterns.built g.P.Patterns.refusals g.P.Patterns.test c.args.patterns.now c.loop-row.patterns c.test.new.patterns
          c.loop-row.invariant.patterns c.in_ok-wanted.ensures.patterns;
    }
