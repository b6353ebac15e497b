use Rattle.fx_types.specs.Shape.{term}
use Rattle.fx_infer.proofs.AskingLaws.{tells_asked}
use Rattle.fx_infer.proofs.operators.tells.Goals as goal

pub returns : goal.returns
returns c =
    tells_asked c.args.kinds.now c.args.span c.args.bindings c.in_ok-asked.asked c.in_ok-bindings.bindings (term c.args.left.now) (term c.args.right.now) c.requires.left c.requires.right c.in_ok-asked.ensures c.in_ok-bindings.ensures
