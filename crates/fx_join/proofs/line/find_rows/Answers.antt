use Rattle.std.proofs.Common.{◌≡◌, ◌+◌, [], ◌∷◌, drop, sym, ap, subst, ◌∙◌, arith, rules, drop_of_length-le}
use Rattle.std.proofs.lemmas.List.{drop_more}
use Rattle.std.specs.Prelude.{Ok, Err}
use Rattle.fx_value.specs.Calls.{Answers, heard}
use Rattle.fx_value.proofs.Calls.{same_patterns_on, same_patterns_none}
use Rattle.fx_group.specs.Answer.{Row}
use Rattle.fx_group.proofs.Gathering.{item_unstuck, item_done, item_stops, items_end}
use Rattle.fx_join.specs.Join.{paired, found_line}
use Rattle.fx_join.specs.Part.{with_found}
use Rattle.fx_join.proofs.Both.{unstuck_both, answers_both}
use Rattle.fx_join.proofs.Lines.{found_more, found_none, line_begins}
use Rattle.fx_join.proofs.Steady.{steady_paired, steady_found_line}
use Rattle.fx_join.proofs.line.find_rows.Goals as goal

pub loop-right-init : goal.loop-right-init
loop-right-init g c =
    let on = g.F.RowFun.means c.args.on.now (heard (g.F.RowFun.numbers c.args.on.now) (g.P.Patterns.test c.args.patterns.now)) in
    let both = g.G.RowFun.means c.args.both.now (heard (g.G.RowFun.numbers c.args.both.now) (g.P.Patterns.test c.args.patterns.now)) in
    record {
      goes = line_begins on both c.args.left.now c.args.rights.now c.in_ok-line.line c.args.meter.now c.requires.ready.spent c.in_ok-line.ensures.rows c.in_ok-line.ensures.hits;
      patterns = same_patterns_none g.P.Patterns.built g.P.Patterns.refusals g.P.Patterns.test c.args.patterns.now;
    }

pub pair-requires-clause-unstuck : goal.pair-requires-clause-unstuck
pair-requires-clause-unstuck g c =
    let on_says = heard (g.F.RowFun.numbers c.args.on.now) (g.P.Patterns.test c.args.patterns.now) in
    let says = heard (g.G.RowFun.numbers c.args.both.now) (g.P.Patterns.test c.args.patterns.now) in
    let on = g.F.RowFun.means c.args.on.now on_says in
    let both = g.G.RowFun.means c.args.both.now says in
    let l = c.args.left.now in
    let rights = c.args.rights.now in
    let i = c.loop-right.right-index in
    let r = c.right-item.result in
    let split : drop i rights ≡ r ∷ drop (i + 1) rights = drop_more rights i r (omega arith) ∙ ap (λ (x : Row). x ∷ drop (i + 1) rights) (sym c.right-item.is) in
    unstuck_both g.P.Patterns.built g.P.Patterns.refusals g.P.Patterns.test (g.F.RowFun.numbers c.args.on.now) (g.G.RowFun.numbers c.args.both.now)
    c.args.patterns.now c.loop-right.patterns c.loop-right.invariant.patterns c.requires.on_given c.requires.both_given
    (λ ons boths n. paired (g.F.RowFun.means c.args.on.now ons) (g.G.RowFun.means c.args.both.now boths) n l r)
    (item_unstuck {X = Row} with_found found_more (λ n x. paired on both n l x) (λ x o. o ∷ []) (found_line on both rights l) c.loop-right.line (drop i rights)
    c.args.meter.now c.loop-right.meter c.loop-right.invariant.goes r (drop (i + 1) rights) split
    (steady_paired on (g.met.F.RowFun.limited c.args.on.now on_says) both (g.met.G.RowFun.limited c.args.both.now says) l r) c.requires.unstuck)

pub returns-in_err-found-clause-answer : goal.returns-in_err-found-clause-answer
returns-in_err-found-clause-answer g c =
    let on_says = heard (g.F.RowFun.numbers c.args.on.now) (g.P.Patterns.test c.args.patterns.now) in
    let says = heard (g.G.RowFun.numbers c.args.both.now) (g.P.Patterns.test c.args.patterns.now) in
    let on = g.F.RowFun.means c.args.on.now on_says in
    let both = g.G.RowFun.means c.args.both.now says in
    let l = c.args.left.now in
    let rights = c.args.rights.now in
    let i = c.loop-right.right-index in
    let r = c.right-item.result in
    let split : drop i rights ≡ r ∷ drop (i + 1) rights = drop_more rights i r (omega arith) ∙ ap (λ (x : Row). x ∷ drop (i + 1) rights) (sym c.right-item.is) in
    let why = c.in_err-found.field-0.0 in
    let same : c.from_residual-in_err-found.result ≡ Err c.in_err-found.field-0.0 = search rules in
    subst (Answers (found_line on both rights l) c.args.meter.now c.pair.new.meter) (sym same)
    (item_stops {X = Row} with_found found_more (λ n x. paired on both n l x) (λ x o. o ∷ []) (found_line on both rights l) c.loop-right.line (drop i rights)
    c.args.meter.now c.loop-right.meter c.loop-right.invariant.goes r (drop (i + 1) rights) split c.pair.new.meter c.in_err-found.ensures.metered why
    (steady_found_line on (g.met.F.RowFun.limited c.args.on.now on_says) both (g.met.G.RowFun.limited c.args.both.now says) rights l)
    (answers_both g.P.Patterns.built g.P.Patterns.refusals g.P.Patterns.test (g.F.RowFun.numbers c.args.on.now) (g.G.RowFun.numbers c.args.both.now)
    c.args.patterns.now c.loop-right.patterns c.loop-right.invariant.patterns c.requires.on_given c.requires.both_given
    (λ ons boths n. paired (g.F.RowFun.means c.args.on.now ons) (g.G.RowFun.means c.args.both.now boths) n l r)
    c.loop-right.meter c.pair.new.meter (Err why) c.in_err-found.ensures.answer))

pub loop-right-preserved : goal.loop-right-preserved
loop-right-preserved g c =
    let on_says = heard (g.F.RowFun.numbers c.args.on.now) (g.P.Patterns.test c.args.patterns.now) in
    let says = heard (g.G.RowFun.numbers c.args.both.now) (g.P.Patterns.test c.args.patterns.now) in
    let on = g.F.RowFun.means c.args.on.now on_says in
    let both = g.G.RowFun.means c.args.both.now says in
    let l = c.args.left.now in
    let rights = c.args.rights.now in
    let i = c.loop-right.right-index in
    let r = c.right-item.result in
    let split : drop i rights ≡ r ∷ drop (i + 1) rights = drop_more rights i r (omega arith) ∙ ap (λ (x : Row). x ∷ drop (i + 1) rights) (sym c.right-item.is) in
    record {
      goes = item_done {X = Row} with_found found_more (λ n x. paired on both n l x) (λ x o. o ∷ []) (found_line on both rights l) c.loop-right.line (drop i rights)
          c.args.meter.now c.loop-right.meter c.loop-right.invariant.goes r (drop (i + 1) rights) split c.pair.new.meter c.in_ok-found.ensures.metered c.in_ok-found.found
          (answers_both g.P.Patterns.built g.P.Patterns.refusals g.P.Patterns.test (g.F.RowFun.numbers c.args.on.now) (g.G.RowFun.numbers c.args.both.now)
          c.args.patterns.now c.loop-right.patterns c.loop-right.invariant.patterns c.requires.on_given c.requires.both_given
          (λ ons boths n. paired (g.F.RowFun.means c.args.on.now ons) (g.G.RowFun.means c.args.both.now boths) n l r)
          c.loop-right.meter c.pair.new.meter (Ok c.in_ok-found.found) c.in_ok-found.ensures.answer)
          _ c.in_ok-add_found.ensures;
      patterns = same_patterns_on g.P.Patterns.built g.P.Patterns.refusals g.P.Patterns.test c.args.patterns.now c.loop-right.patterns c.pair.new.patterns
          c.loop-right.invariant.patterns c.in_ok-found.ensures.patterns;
    }

pub returns-clause-answer : goal.returns-clause-answer
returns-clause-answer g c =
    let on = g.F.RowFun.means c.args.on.now (heard (g.F.RowFun.numbers c.args.on.now) (g.P.Patterns.test c.args.patterns.now)) in
    let both = g.G.RowFun.means c.args.both.now (heard (g.G.RowFun.numbers c.args.both.now) (g.P.Patterns.test c.args.patterns.now)) in
    let rights = c.args.rights.now in
    items_end {X = Row} with_found found_more (λ n x. paired on both n c.args.left.now x) (λ x o. o ∷ []) (found_line on both rights c.args.left.now) c.loop-right.line
    (drop c.loop-right.right-index rights) c.args.meter.now c.loop-right.meter c.loop-right.invariant.goes (drop_of_length-le rights (omega arith)) (found_none c.loop-right.line)
