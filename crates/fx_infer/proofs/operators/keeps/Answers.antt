use Rattle.fx_infer.proofs.AskingLaws.{keeps_asked}
use Rattle.fx_infer.proofs.operators.keeps.Goals as goal

pub returns : goal.returns
returns c =
    keeps_asked c.args.kinds.now c.args.bindings c.in_ok-asked.asked c.in_ok-bindings.bindings c.args.left.now c.args.right.now c.in_ok-ty.ty c.in_ok-ty.ensures c.requires.left c.requires.right c.in_ok-asked.ensures c.in_ok-bindings.ensures
