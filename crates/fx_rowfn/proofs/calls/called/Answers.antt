use Rattle.fx_ast.specs.Shape.{tree_of}
use Rattle.fx_rowfn.specs.State.{props_from}
use Rattle.fx_rowfn.proofs.CallLaws.{callee_awaits}
use Rattle.fx_rowfn.proofs.calls.called.Goals as goal

pub returns : goal.returns
returns c = λ test limit fs.
    callee_awaits test limit fs c.args.scope c.args.whole.now.place c.args.callee.now (props_from (tree_of c.args.whole.now) 0) c.in_ok-frame.frame c.in_ok-next.next c.in_ok-frame.ensures c.in_ok-next.ensures
