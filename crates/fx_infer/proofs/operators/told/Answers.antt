use Rattle.std.proofs.Common.{false}
use Rattle.fx_types.specs.Shape.{term}
use Rattle.fx_infer.proofs.AskingLaws.{told_asked}
use Rattle.fx_infer.proofs.operators.told.Goals as goal

pub returns : goal.returns
returns c = told_asked c.args.kinds.now false c.args.bindings c.in_ok-bindings.bindings (term c.args.of.now) c.in_ok-bindings.ensures
