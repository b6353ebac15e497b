use Rattle.std.proofs.Common.{List, ℕ, sym, subst}
use Rattle.fx_value.specs.Calls.{Answers, heard}
use Rattle.fx_value.specs.Ends.{NeverStuck}
use Rattle.fx_join.specs.Joined.{joined}
use Rattle.fx_join.specs.SameTime.{same_times}
use Rattle.fx_join.proofs.times.join_time.Goals as goal

pub join_nested-requires-clause-unstuck : goal.join_nested-requires-clause-unstuck
join_nested-requires-clause-unstuck g c =
    let both = g.G.RowFun.means c.args.both.now (heard (g.G.RowFun.numbers c.args.both.now) (g.P.Patterns.test c.args.patterns.now)) in
    subst (λ (label : List ℕ). NeverStuck (λ n. joined (same_times label) both c.args.side c.args.left c.args.right n)) (sym c.in_ok-on.ensures) c.requires.unstuck

pub returns-clause-answer : goal.returns-clause-answer
returns-clause-answer g c =
    let both = g.G.RowFun.means c.args.both.now (heard (g.G.RowFun.numbers c.args.both.now) (g.P.Patterns.test c.args.patterns.now)) in
    subst (λ (label : List ℕ). Answers (λ n. joined (same_times label) both c.args.side c.args.left c.args.right n) c.args.meter.now c.join_nested.new.meter c.join_nested.result)
    c.in_ok-on.ensures c.join_nested.ensures.answer
