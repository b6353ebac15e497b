use Rattle.fx_rowfn.proofs.EnterLaws.{assign_awaits}
use Rattle.fx_rowfn.proofs.enter.assign_first.Goals as goal

pub returns : goal.returns
returns c = λ test limit fs.
    assign_awaits test limit fs c.args.entry c.args.first.now c.in_ok-label.label c.in_ok-scope.scope c.in_ok-next.next c.in_ok-label.ensures c.in_ok-scope.ensures c.in_ok-next.ensures
