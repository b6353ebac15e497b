use Rattle.std.proofs.Common.{◌≡◌, true, rules}
use Rattle.fx_value.specs.Calls.{heard}
use Rattle.fx_join.proofs.Pairs.{made_unstuck}
use Rattle.fx_join.proofs.answer.make_if.Goals as goal

pub make-requires-clause-unstuck : goal.make-requires-clause-unstuck
make-requires-clause-unstuck g c =
    let both = g.G.RowFun.means c.args.both.now (heard (g.G.RowFun.numbers c.args.both.now) (g.P.Patterns.test c.args.patterns.now)) in
    let wanted : c.args.wanted ≡ true = search rules in
    made_unstuck both c.args.left.now c.args.right.now c.args.wanted wanted c.requires.unstuck
