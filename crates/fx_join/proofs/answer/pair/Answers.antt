use Rattle.fx_value.specs.Calls.{heard}
use Rattle.fx_value.proofs.Loops.{goes_begins, goes_then, goes_answers}
use Rattle.fx_group.proofs.Patterns.{unstuck_still, answers_still}
use Rattle.fx_join.specs.Join.{matched, made_if, paired}
use Rattle.fx_join.proofs.Pairs.{last_unstuck}
use Rattle.fx_join.proofs.Steady.{steady_made_if, steady_paired}
use Rattle.fx_join.proofs.answer.pair.Goals as goal

pub make_if-requires-clause-unstuck : goal.make_if-requires-clause-unstuck
make_if-requires-clause-unstuck g c =
    let says = heard (g.G.RowFun.numbers c.args.both.now) (g.P.Patterns.test c.args.patterns.now) in
    let on = g.F.RowFun.means c.args.on.now (heard (g.F.RowFun.numbers c.args.on.now) (g.P.Patterns.test c.args.patterns.now)) in
    let both = g.G.RowFun.means c.args.both.now says in
    let l = c.args.left.now in
    let r = c.args.right.now in
    let hit = c.in_ok-hit.hit in
    let goes
    = goes_then (λ n. paired on both n l r) (λ n. matched on n l r) (λ h n. made_if both n l r h) c.args.meter.now c.args.meter.now
    (goes_begins (λ n. paired on both n l r) c.args.meter.now c.requires.ready.spent) c.matches.new.meter c.in_ok-hit.ensures.metered hit c.in_ok-hit.ensures.answer in
    unstuck_still g.P.Patterns.built g.P.Patterns.refusals g.P.Patterns.test (g.G.RowFun.numbers c.args.both.now)
    c.args.patterns.now c.matches.new.patterns c.in_ok-hit.ensures.patterns c.requires.both_given
    (λ says n. made_if (g.G.RowFun.means c.args.both.now says) n l r hit)
    (last_unstuck (λ n. paired on both n l r) (λ n. made_if both n l r hit) c.args.meter.now c.matches.new.meter goes
    (steady_made_if both (g.met.G.RowFun.limited c.args.both.now says) l r hit) c.requires.unstuck)

pub returns-clause-answer : goal.returns-clause-answer
returns-clause-answer g c =
    let on_says = heard (g.F.RowFun.numbers c.args.on.now) (g.P.Patterns.test c.args.patterns.now) in
    let says = heard (g.G.RowFun.numbers c.args.both.now) (g.P.Patterns.test c.args.patterns.now) in
    let on = g.F.RowFun.means c.args.on.now on_says in
    let both = g.G.RowFun.means c.args.both.now says in
    let l = c.args.left.now in
    let r = c.args.right.now in
    let hit = c.in_ok-hit.hit in
    let goes
    = goes_then (λ n. paired on both n l r) (λ n. matched on n l r) (λ h n. made_if both n l r h) c.args.meter.now c.args.meter.now
    (goes_begins (λ n. paired on both n l r) c.args.meter.now c.requires.ready.spent) c.matches.new.meter c.in_ok-hit.ensures.metered hit c.in_ok-hit.ensures.answer in
    goes_answers (λ n. paired on both n l r) (λ n. made_if both n l r hit) c.args.meter.now c.matches.new.meter c.make_if.new.meter goes c.make_if.ensures.metered
    (steady_paired on (g.met.F.RowFun.limited c.args.on.now on_says) both (g.met.G.RowFun.limited c.args.both.now says) l r) c.make_if.result
    (answers_still g.P.Patterns.built g.P.Patterns.refusals g.P.Patterns.test (g.G.RowFun.numbers c.args.both.now)
    c.args.patterns.now c.matches.new.patterns c.in_ok-hit.ensures.patterns c.requires.both_given
    (λ says n. made_if (g.G.RowFun.means c.args.both.now says) n l r hit) c.matches.new.meter c.make_if.new.meter c.make_if.result c.make_if.ensures.answer)
