use Rattle.fx_infer.proofs.AskingLaws.{any_type_asked}
use Rattle.fx_infer.proofs.ask.any_type.Goals as goal

pub returns : goal.returns
returns c = any_type_asked c.args.bindings c.in_ok-bindings.bindings c.in_ok-number.number c.in_ok-number.ensures c.in_ok-bindings.ensures.ok c.in_ok-bindings.ensures.next
