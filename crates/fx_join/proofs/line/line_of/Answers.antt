use Rattle.fx_value.specs.Calls.{heard}
use Rattle.fx_value.proofs.Loops.{goes_begins, goes_then, goes_answers}
use Rattle.fx_group.proofs.Patterns.{unstuck_still, answers_still}
use Rattle.fx_join.specs.Join.{found_line, lone_left, line_of_left}
use Rattle.fx_join.proofs.Pairs.{last_unstuck}
use Rattle.fx_join.proofs.Steady.{steady_lone_left, steady_line}
use Rattle.fx_join.proofs.line.line_of.Goals as goal

pub with_lone-requires-clause-unstuck : goal.with_lone-requires-clause-unstuck
with_lone-requires-clause-unstuck g c =
    let says = heard (g.G.RowFun.numbers c.args.both.now) (g.P.Patterns.test c.args.patterns.now) in
    let on = g.F.RowFun.means c.args.on.now (heard (g.F.RowFun.numbers c.args.on.now) (g.P.Patterns.test c.args.patterns.now)) in
    let both = g.G.RowFun.means c.args.both.now says in
    let l = c.args.left in
    let whole = line_of_left on both c.args.side c.args.rights.now l in
    let x = c.in_ok-line.line in
    let goes
    = goes_then whole (found_line on both c.args.rights.now l) (λ y n. lone_left both c.args.side l n y) c.args.meter.now c.args.meter.now
    (goes_begins whole c.args.meter.now c.requires.ready.spent) c.find_rows.new.meter c.in_ok-line.ensures.metered x c.in_ok-line.ensures.answer in
    unstuck_still g.P.Patterns.built g.P.Patterns.refusals g.P.Patterns.test (g.G.RowFun.numbers c.args.both.now)
    c.args.patterns.now c.find_rows.new.patterns c.in_ok-line.ensures.patterns c.requires.both_given
    (λ says n. lone_left (g.G.RowFun.means c.args.both.now says) c.args.side l n x)
    (last_unstuck whole (λ n. lone_left both c.args.side l n x) c.args.meter.now c.find_rows.new.meter goes
    (steady_lone_left both (g.met.G.RowFun.limited c.args.both.now says) c.args.side l x) c.requires.unstuck)

pub returns-clause-answer : goal.returns-clause-answer
returns-clause-answer g c =
    let on_says = heard (g.F.RowFun.numbers c.args.on.now) (g.P.Patterns.test c.args.patterns.now) in
    let says = heard (g.G.RowFun.numbers c.args.both.now) (g.P.Patterns.test c.args.patterns.now) in
    let on = g.F.RowFun.means c.args.on.now on_says in
    let both = g.G.RowFun.means c.args.both.now says in
    let l = c.args.left in
    let whole = line_of_left on both c.args.side c.args.rights.now l in
    let x = c.in_ok-line.line in
    let goes
    = goes_then whole (found_line on both c.args.rights.now l) (λ y n. lone_left both c.args.side l n y) c.args.meter.now c.args.meter.now
    (goes_begins whole c.args.meter.now c.requires.ready.spent) c.find_rows.new.meter c.in_ok-line.ensures.metered x c.in_ok-line.ensures.answer in
    goes_answers whole (λ n. lone_left both c.args.side l n x) c.args.meter.now c.find_rows.new.meter c.with_lone.new.meter goes c.with_lone.ensures.metered
    (steady_line on (g.met.F.RowFun.limited c.args.on.now on_says) both (g.met.G.RowFun.limited c.args.both.now says) c.args.side c.args.rights.now l) c.with_lone.result
    (answers_still g.P.Patterns.built g.P.Patterns.refusals g.P.Patterns.test (g.G.RowFun.numbers c.args.both.now)
    c.args.patterns.now c.find_rows.new.patterns c.in_ok-line.ensures.patterns c.requires.both_given
    (λ says n. lone_left (g.G.RowFun.means c.args.both.now says) c.args.side l n x) c.find_rows.new.meter c.with_lone.new.meter c.with_lone.result c.with_lone.ensures.answer)
