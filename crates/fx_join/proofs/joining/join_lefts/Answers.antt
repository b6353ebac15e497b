use Rattle.std.proofs.Common.{◌≡◌, [], ◌∷◌, ℕ, refl, sym, subst, arith, rules}
use Rattle.std.specs.Prelude.{Ok, Err}
use Rattle.fx_value.specs.Calls.{Answers, heard}
use Rattle.fx_value.specs.Ends.{End}
use Rattle.fx_value.specs.Works.{into}
use Rattle.fx_value.proofs.Calls.{same_patterns_on}
use Rattle.fx_group.specs.Answer.{Row}
use Rattle.fx_group.proofs.Gathering.{item_unstuck, item_done, item_stops, items_end}
use Rattle.fx_join.specs.Join.{line_of_left}
use Rattle.fx_join.specs.Joined.{lines_of}
use Rattle.fx_join.specs.Part.{with_lines}
use Rattle.fx_join.specs.declared.joining.Part.{Part}
use Rattle.fx_join.proofs.Both.{unstuck_both, answers_both}
use Rattle.fx_join.proofs.Parts.{lines_more, nothing_left}
use Rattle.fx_join.proofs.Steady.{steady_line}
use Rattle.fx_join.proofs.SteadyJoins.{steady_part}
use Rattle.fx_join.proofs.joining.join_lefts.Goals as goal

pub line_of-requires-clause-unstuck : goal.line_of-requires-clause-unstuck
line_of-requires-clause-unstuck g c =
    let on_says = heard (g.F.RowFun.numbers c.args.on.now) (g.P.Patterns.test c.args.patterns.now) in
    let says = heard (g.G.RowFun.numbers c.args.both.now) (g.P.Patterns.test c.args.patterns.now) in
    let on = g.F.RowFun.means c.args.on.now on_says in
    let both = g.G.RowFun.means c.args.both.now says in
    let key = c.args.key.now in
    let side = c.args.side in
    let rights = c.args.rights.now in
    let l = c.in-Some.left in
    let whole : ℕ → End Part = λ n. into (with_lines key) c.args.part (lines_of on both side rights c.args.lefts n) in
    unstuck_both g.P.Patterns.built g.P.Patterns.refusals g.P.Patterns.test (g.F.RowFun.numbers c.args.on.now) (g.G.RowFun.numbers c.args.both.now)
    c.args.patterns.now c.loop-left.patterns c.loop-left.invariant.patterns c.requires.on_given c.requires.both_given
    (λ ons boths. line_of_left (g.F.RowFun.means c.args.on.now ons) (g.G.RowFun.means c.args.both.now boths) side rights l)
    (item_unstuck {X = Row} (with_lines key) (lines_more key) (λ n x. line_of_left on both side rights x n) (λ x line. line ∷ []) whole c.loop-left.part c.loop-left.left-iterator.rest.items
    c.args.meter.now c.loop-left.meter c.loop-left.invariant.goes l c.next.new.self.rest.items c.in-Some.ensures.steps.0
    (steady_line on (g.met.F.RowFun.limited c.args.on.now on_says) both (g.met.G.RowFun.limited c.args.both.now says) side rights l) c.requires.unstuck)

pub returns-in_err-line-clause-answer : goal.returns-in_err-line-clause-answer
returns-in_err-line-clause-answer g c =
    let on_says = heard (g.F.RowFun.numbers c.args.on.now) (g.P.Patterns.test c.args.patterns.now) in
    let says = heard (g.G.RowFun.numbers c.args.both.now) (g.P.Patterns.test c.args.patterns.now) in
    let on = g.F.RowFun.means c.args.on.now on_says in
    let both = g.G.RowFun.means c.args.both.now says in
    let key = c.args.key.now in
    let side = c.args.side in
    let rights = c.args.rights.now in
    let l = c.in-Some.left in
    let whole : ℕ → End Part = λ n. into (with_lines key) c.args.part (lines_of on both side rights c.args.lefts n) in
    let why = c.in_err-line.field-0.0 in
    let same : c.from_residual.result ≡ Err c.in_err-line.field-0.0 = search rules in
    subst (Answers whole c.args.meter.now c.line_of.new.meter) (sym same)
    (item_stops {X = Row} (with_lines key) (lines_more key) (λ n x. line_of_left on both side rights x n) (λ x line. line ∷ []) whole c.loop-left.part c.loop-left.left-iterator.rest.items
    c.args.meter.now c.loop-left.meter c.loop-left.invariant.goes l c.next.new.self.rest.items c.in-Some.ensures.steps.0 c.line_of.new.meter c.in_err-line.ensures.metered why
    (steady_part on (g.met.F.RowFun.limited c.args.on.now on_says) both (g.met.G.RowFun.limited c.args.both.now says) side key c.args.part rights c.args.lefts)
    (answers_both g.P.Patterns.built g.P.Patterns.refusals g.P.Patterns.test (g.F.RowFun.numbers c.args.on.now) (g.G.RowFun.numbers c.args.both.now)
    c.args.patterns.now c.loop-left.patterns c.loop-left.invariant.patterns c.requires.on_given c.requires.both_given
    (λ ons boths. line_of_left (g.F.RowFun.means c.args.on.now ons) (g.G.RowFun.means c.args.both.now boths) side rights l)
    c.loop-left.meter c.line_of.new.meter (Err why) c.in_err-line.ensures.answer))

pub loop-left-preserved : goal.loop-left-preserved
loop-left-preserved g c =
    let on_says = heard (g.F.RowFun.numbers c.args.on.now) (g.P.Patterns.test c.args.patterns.now) in
    let says = heard (g.G.RowFun.numbers c.args.both.now) (g.P.Patterns.test c.args.patterns.now) in
    let on = g.F.RowFun.means c.args.on.now on_says in
    let both = g.G.RowFun.means c.args.both.now says in
    let key = c.args.key.now in
    let side = c.args.side in
    let rights = c.args.rights.now in
    let l = c.in-Some.left in
    let whole : ℕ → End Part = λ n. into (with_lines key) c.args.part (lines_of on both side rights c.args.lefts n) in
    record {
      goes = item_done {X = Row} (with_lines key) (lines_more key) (λ n x. line_of_left on both side rights x n) (λ x line. line ∷ []) whole c.loop-left.part c.loop-left.left-iterator.rest.items
          c.args.meter.now c.loop-left.meter c.loop-left.invariant.goes l c.next.new.self.rest.items c.in-Some.ensures.steps.0 c.line_of.new.meter c.in_ok-line.ensures.metered c.in_ok-line.line
          (answers_both g.P.Patterns.built g.P.Patterns.refusals g.P.Patterns.test (g.F.RowFun.numbers c.args.on.now) (g.G.RowFun.numbers c.args.both.now)
          c.args.patterns.now c.loop-left.patterns c.loop-left.invariant.patterns c.requires.on_given c.requires.both_given
          (λ ons boths. line_of_left (g.F.RowFun.means c.args.on.now ons) (g.G.RowFun.means c.args.both.now boths) side rights l)
          c.loop-left.meter c.line_of.new.meter (Ok c.in_ok-line.line) c.in_ok-line.ensures.answer)
          _ c.in_ok-part.ensures;
      patterns = same_patterns_on g.P.Patterns.built g.P.Patterns.refusals g.P.Patterns.test c.args.patterns.now c.loop-left.patterns c.line_of.new.patterns
          c.loop-left.invariant.patterns c.in_ok-line.ensures.patterns;
    }

pub returns-clause-answer : goal.returns-clause-answer
returns-clause-answer g c =
    let on_says = heard (g.F.RowFun.numbers c.args.on.now) (g.P.Patterns.test c.args.patterns.now) in
    let says = heard (g.G.RowFun.numbers c.args.both.now) (g.P.Patterns.test c.args.patterns.now) in
    let on = g.F.RowFun.means c.args.on.now on_says in
    let both = g.G.RowFun.means c.args.both.now says in
    let key = c.args.key.now in
    let side = c.args.side in
    let rights = c.args.rights.now in
    let whole : ℕ → End Part = λ n. into (with_lines key) c.args.part (lines_of on both side rights c.args.lefts n) in
    let none : c.loop-left.left-iterator.rest.items ≡ [] = nothing_left c.loop-left.left-iterator.rest.items (omega (arith, c.in-None.ensures.steps.0, c.loop-left.left-iterator.rest.ok.0)) in
    items_end {X = Row} (with_lines key) (lines_more key) (λ n x. line_of_left on both side rights x n) (λ x line. line ∷ []) whole c.loop-left.part c.loop-left.left-iterator.rest.items
    c.args.meter.now c.loop-left.meter c.loop-left.invariant.goes none refl
