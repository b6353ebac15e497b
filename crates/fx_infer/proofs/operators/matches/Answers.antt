use Rattle.fx_types.specs.Shape.{term}
use Rattle.fx_infer.proofs.AskingLaws.{matches_asked}
use Rattle.fx_infer.proofs.operators.matches.Goals as goal

pub returns : goal.returns
returns c = matches_asked c.args.bindings c.in_ok-asked.asked c.in_ok-bindings.bindings (term c.args.left.now) (term c.args.right.now) c.requires.right c.in_ok-asked.ensures c.in_ok-bindings.ensures
