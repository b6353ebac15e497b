use Rattle.std.proofs.Common.{◌≡◌, true, sym, subst, rules}
use Rattle.std.specs.FinMap as fin
use Rattle.fx_group.specs.Answer.{Row}
use Rattle.fx_join.specs.Join.{made}
use Rattle.fx_join.proofs.Pairs.{made_unstuck}
use Rattle.fx_value.specs.Calls.{heard}
use Rattle.fx_value.specs.Ends.{NeverStuck}
use Rattle.fx_join.proofs.answer.make_left.Goals as goal

pub make-requires-clause-unstuck : goal.make-requires-clause-unstuck
make-requires-clause-unstuck g c =
    let both = g.G.RowFun.means c.args.both.now (heard (g.G.RowFun.numbers c.args.both.now) (g.P.Patterns.test c.args.patterns.now)) in
    let wanted : c.args.wanted ≡ true = search rules in
    subst (λ (r : Row). NeverStuck (λ n. made both n c.args.left.now r)) (sym c.in_ok-empty.ensures)
    (made_unstuck both c.args.left.now fin.empty c.args.wanted wanted c.requires.unstuck)
