use Rattle.std.proofs.Common.{subst}
use Rattle.fx_group.specs.Answer.{Row}
use Rattle.fx_join.specs.Join.{made}
use Rattle.fx_value.specs.Calls.{Answers, heard}
use Rattle.fx_join.proofs.answer.make_right.Goals as goal

pub returns-clause-answer : goal.returns-clause-answer
returns-clause-answer g c =
    let both = g.G.RowFun.means c.args.both.now (heard (g.G.RowFun.numbers c.args.both.now) (g.P.Patterns.test c.args.patterns.now)) in
    subst (λ (l : Row). Answers (λ n. made both n l c.args.right) c.args.meter.now c.make.new.meter c.make.result) c.in_ok-empty.ensures c.make.ensures.answer
