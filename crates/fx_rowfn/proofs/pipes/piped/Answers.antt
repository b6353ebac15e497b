use Rattle.fx_ast.specs.Shape.{tree_of}
use Rattle.fx_rowfn.specs.State.{trees_from}
use Rattle.fx_rowfn.proofs.PipeLaws.{pipe_awaits}
use Rattle.fx_rowfn.proofs.pipes.piped.Goals as goal

pub returns : goal.returns
returns c = λ test limit fs.
    pipe_awaits test limit fs c.args.scope c.args.whole.now.place c.args.first.now (trees_from (tree_of c.args.whole.now) 0) c.in_ok-frame.frame c.in_ok-next.next c.in_ok-frame.ensures c.in_ok-next.ensures
